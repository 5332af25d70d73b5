-- What a step of the bot does to each part of what stands.
use Rattle.std.proofs.Common.{◌≡◌, inl, inr, ℕ, ◌+◌, ◌<◌, ◌^◌, true, false, List, [], ◌∷◌, ◌++◌, Option, Some, None, IfSome, refl, ap, sym, ◌∙◌, subst, arith}
use Rattle.bot_worlds.specs.Types.{BotEvent, BotState, Phase, Chunk, Last}
use Rattle.bot_core.specs.declared.bot_event.BotEvent.TheVariants as event
use Rattle.bot_core.specs.declared.bot_state.Phase.TheVariants as phase
use Rattle.bot_requests.specs.Bodies.{claim_name}
use Rattle.pool_laws.proofs.Lists.{Among}
use Rattle.pool_laws.proofs.Lists.Among.{here, later}
use Rattle.bot_worlds.specs.declared.child_run.ChildRun.{ChildRun}
use Rattle.bot_worlds.specs.Phases.{is_early, is_live, is_over}
use Rattle.bot_worlds.specs.World.{with_told, with_start, with_output, runs_after}
use Rattle.bot_worlds.specs.Invariant.{BotLog, IsReportedTo, CarriesPiece, CarriesNewest, CarriesSome, IsRun, HasNewest, IsBefore, AreBefore, AreNumbered}
use Rattle.bot_worlds.proofs.Walks.{is_run, is_started, is_sent, Walk, Walks}
use Rattle.bot_worlds.proofs.Walks.Walk.{plain, next_id, next_name, told, begun, sent}
use Rattle.bot_worlds.proofs.Grown.{before_more, pieces_longer}

-- the run that a claim was answered with
pub record IsTold (lg : BotLog) (s : BotState) (o : Option ChildRun) : Type 0 where
  pub run : ChildRun
  pub is : o ≡ Some run
  pub named : run.claim ≡ claim_name s.first s.session s.claim
  pub unstarted : run.started ≡ 0
  pub empty : run.wrote ≡ []
  pub stands : IsRun lg run
  pub small_session : s.session < 2 ^ 64
  pub small_claim : s.claim < 2 ^ 64

-- ---- phases

over_not_live : (p : Phase) → is_over p ≡ true → is_live p ≡ true → ⊥
over_not_live phase.Look h k = cc
over_not_live (phase.Signal signal) h k = cc
over_not_live phase.Send h k = cc
over_not_live phase.Upload h k = cc
over_not_live p h k = cc

walk_over : (s : BotState) (p : Phase) (e : BotEvent) (x : ℕ × ℕ × ℕ) (c n : ℕ) (q : Phase) → Walk s p e x c n q → is_run e ≡ false → is_over p ≡ true → is_over q ≡ true
walk_over s p e x c n q (plain a b v k l o i j m) r h = o h
walk_over s p e x c n q (next_id a b k l o i m) r h = o
walk_over s p e x c n q (next_name a b k l o i j m) r h = o
walk_over s p e x c n q (told a b k l v i j m) r h = absurd (cc)
walk_over s p e x c n q (begun a b k l o r2 i j m) r h = absurd (cc)
walk_over s p e x c n q (sent a b d k l o i j m) r h = absurd (let z : is_over p ≡ false = ap is_over k in cc)

pub started_early : (s : BotState) (p : Phase) (e : BotEvent) (x : ℕ × ℕ × ℕ) (c n : ℕ) (q : Phase) → Walk s p e x c n q → is_started e ≡ true → is_early p ≡ true
started_early s p e x c n q (plain a b v k l o i j m) h = absurd (cc)
started_early s p e x c n q (next_id a b k l o i m) h = absurd (cc)
started_early s p e x c n q (next_name a b k l o i j m) h = absurd (cc)
started_early s p e x c n q (told a b k l v i j m) h = absurd (cc)
started_early s p e x c n q (begun a b k l o r i j m) h = k
started_early s p e x c n q (sent a b d k l o i j m) h = absurd (cc)

-- ---- ids

same_claims : (f x c : ℕ) (e : BotEvent) (o : Option ChildRun) (bytes : List ℕ) (runs : List ChildRun) → is_run e ≡ false → AreBefore f x c runs → AreBefore f x c (runs_after o e bytes runs)
same_claims f x c (event.ClaimRun a b d g) o bytes runs r h = absurd (cc)
same_claims f x c event.Started o bytes [] r h = h
same_claims f x c event.Started o bytes (run ∷ runs) r h = h
same_claims f x c (event.Output size) o bytes [] r h = h
same_claims f x c (event.Output size) o bytes (run ∷ runs) r h = h
same_claims f x c e o bytes runs r h = h

moved_ids : (f x l c f2 x2 l2 c2 : ℕ) (runs : List ChildRun) → ◌≡◌ {A = ℕ × ℕ × ℕ} (f2, x2, l2) (f, x, l) → c2 ≡ c → AreBefore f x c runs → AreBefore f2 x2 c2 runs
moved_ids f x l c f2 x2 l2 c2 runs i j h = subst (λ (p : ℕ × ℕ × ℕ). AreBefore p.0 p.1 c2 runs) (sym i) (subst (λ k. AreBefore f x k runs) (sym j) h)

run_case : (e : BotEvent) (o : Option ChildRun) (bytes : List ℕ) (runs : List ChildRun) → is_run e ≡ true → runs_after o e bytes runs ≡ with_told o runs
run_case (event.ClaimRun a b d g) o bytes runs h = refl
run_case e o bytes runs h = absurd (cc)

start_case : (e : BotEvent) (o : Option ChildRun) (bytes : List ℕ) (runs : List ChildRun) → is_started e ≡ true → runs_after o e bytes runs ≡ with_start runs
start_case event.Started o bytes runs h = refl
start_case e o bytes runs h = absurd (cc)

-- a later claim of the session, and another session
next_before : (x c a b : ℕ) → IsBefore a b x (c + 1) → IsBefore a b x (c + 1 + 1)
next_before x c a b (inl h) = inl h
next_before x c a b (inr h) = inr (h.0, let k = h.1 in omega (arith, k))

renewed_before : (x c a b : ℕ) → IsBefore a b x (c + 1) → IsBefore a b (x + 1) (0 + 1)
renewed_before x c a b (inl h) = inl (omega (arith, h))
renewed_before x c a b (inr h) = inl (let k = h.0 in omega (arith, k))

module _ (lg : BotLog) (s t : BotState) (e : BotEvent) (o : Option ChildRun) (bytes : List ℕ) (is_told : is_run e ≡ true → IsTold lg s o) where
  pub numbered_after : (runs : List ChildRun) → AreNumbered s runs → Walks s s.phase e t → AreNumbered t (runs_after o e bytes runs)
  numbered_after runs h (plain a b v k l w i j n) = (
    same_claims t.first t.session (t.claim + 1) e o bytes runs a (moved_ids s.first s.session s.limits.steps (s.claim + 1) t.first t.session t.limits.steps (t.claim + 1) runs i (ap (λ z. z + 1) j) h.0),
    λ q. same_claims t.first t.session t.claim e o bytes runs a (moved_ids s.first s.session s.limits.steps s.claim t.first t.session t.limits.steps t.claim runs i j (h.1 (k q))),
  )
  numbered_after runs h (next_id a b k l w i n) = (
    same_claims t.first t.session (t.claim + 1) e o bytes runs a (moved_ids s.first s.session s.limits.steps (s.claim + 1 + 1) t.first t.session t.limits.steps (t.claim + 1) runs i.0 (ap (λ z. z + 1) i.1)
        (before_more s.first s.session (s.claim + 1) s.session (s.claim + 1 + 1) runs (next_before s.session s.claim) h.0)),
    λ q. same_claims t.first t.session t.claim e o bytes runs a (moved_ids s.first s.session s.limits.steps (s.claim + 1) t.first t.session t.limits.steps t.claim runs i.0 i.1 h.0),
  )
  numbered_after runs h (next_name a b k l w i j n) = (
    same_claims t.first t.session (t.claim + 1) e o bytes runs a (moved_ids s.first (s.session + 1) s.limits.steps (0 + 1) t.first t.session t.limits.steps (t.claim + 1) runs i (ap (λ z. z + 1) j)
        (before_more s.first s.session (s.claim + 1) (s.session + 1) (0 + 1) runs (renewed_before s.session s.claim) h.0)),
    λ q. absurd (cc),
  )
  numbered_after runs h (told a b k l v i j n) =
      let g = is_told a in
      let new : List ChildRun = g.run ∷ runs in
      let is : runs_after o e bytes runs ≡ new = run_case e o bytes runs a ∙ ap (λ (r : Option ChildRun). with_told r runs) g.is in (
        subst (λ (rs : List ChildRun). AreBefore t.first t.session (t.claim + 1) rs) (sym is)
            (moved_ids s.first s.session s.limits.steps (s.claim + 1) t.first t.session t.limits.steps (t.claim + 1) new i (ap (λ z. z + 1) j) (s.session, s.claim, g.named, inr (refl, omega arith), g.small_session, g.small_claim, h.1 k)),
        λ q. absurd (cc),
      )
  numbered_after runs h (begun a b k l w r i j n) =
      (same_claims t.first t.session (t.claim + 1) e o bytes runs a (moved_ids s.first s.session s.limits.steps (s.claim + 1) t.first t.session t.limits.steps (t.claim + 1) runs i (ap (λ z. z + 1) j) h.0), λ q. absurd (cc))
  numbered_after runs h (sent d a b k l w i j n) =
      (same_claims t.first t.session (t.claim + 1) e o bytes runs a (moved_ids s.first s.session s.limits.steps (s.claim + 1) t.first t.session t.limits.steps (t.claim + 1) runs i (ap (λ z. z + 1) j) h.0), λ q. absurd (cc))

  -- ---- the newest run

  newest_same : (runs : List ChildRun) → is_run e ≡ false → is_started e ≡ false → HasNewest lg t runs → HasNewest lg t (runs_after o e bytes runs)
  newest_same runs a b h = by_event e a b runs h
    where
      by_event : (y : BotEvent) → is_run y ≡ false → is_started y ≡ false → (rs : List ChildRun) → HasNewest lg t rs → HasNewest lg t (runs_after o y bytes rs)
      by_event (event.ClaimRun x i g d) a b rs h = absurd (cc)
      by_event event.Started a b rs h = absurd (cc)
      by_event (event.Output size) a b [] h = h
      by_event (event.Output size) a b (run ∷ rs) h = record { sent = h.sent; early = h.early; live = h.live }
      by_event y a b rs h = h

  reported_at : (k j end end2 : ℕ) → end2 ≡ end → IsReportedTo lg k j end → IsReportedTo lg k j end2
  reported_at k j end end2 is h = subst (λ n. IsReportedTo lg k j n) (sym is) h

  moved_newest : (runs : List ChildRun) → t.run.sent ≡ s.run.sent → (is_over s.phase ≡ true → is_over t.phase ≡ true) → (is_early t.phase ≡ true → is_early s.phase ≡ true) → (is_live t.phase ≡ true → is_live s.phase ≡ true) →
      HasNewest lg s runs → HasNewest lg t runs
  moved_newest [] n w l v h = (n ∙ h.0, w h.1)
  moved_newest (run ∷ runs) n w l v h = record { sent = reported_at run.task run.try_no s.run.sent t.run.sent n h.sent; early = λ q. h.early (l q); live = λ q. h.live (v q) }

  begun_newest : (runs : List ChildRun) → is_early s.phase ≡ true → is_over s.phase ≡ false → is_early t.phase ≡ false → t.run.sent ≡ s.run.sent → HasNewest lg s runs → HasNewest lg t (with_start runs)
  begun_newest [] k w r n h = absurd (let z = h.1 in cc)
  begun_newest (run ∷ runs) k w r n h = record { sent = reported_at run.task run.try_no s.run.sent t.run.sent n h.sent; early = λ q. absurd (cc); live = λ q. ap (λ z. z + 1) (h.early k) }

  sent_newest : (runs : List ChildRun) → s.phase ≡ phase.Send → is_early t.phase ≡ false → t.run.sent ≡ s.run.sent + s.run.pending →
      ((run : ChildRun) (rest : List ChildRun) → runs ≡ run ∷ rest → IsReportedTo lg run.task run.try_no (s.run.sent + s.run.pending)) → HasNewest lg s runs → HasNewest lg t runs
  sent_newest [] k w n g h = absurd (let z = h.1 in let y : is_over s.phase ≡ false = ap is_over k in cc)
  sent_newest (run ∷ runs) k w n g h = record { sent = reported_at run.task run.try_no (s.run.sent + s.run.pending) t.run.sent n (g run runs refl); early = λ q. absurd (cc); live = λ q. h.live (ap is_live k) }

  pub newest_after : (runs : List ChildRun) → (is_sent e ≡ true → s.phase ≡ phase.Send → (run : ChildRun) (rest : List ChildRun) → runs ≡ run ∷ rest → IsReportedTo lg run.task run.try_no (s.run.sent + s.run.pending)) →
      HasNewest lg s runs → Walks s s.phase e t → HasNewest lg t (runs_after o e bytes runs)
  newest_after runs g h (plain a b v k l w i j n) = newest_same runs a b (moved_newest runs n w l v h)
  newest_after runs g h (next_id a b k l w i n) = newest_same runs a b (moved_newest runs n (λ _. w) (λ q. absurd (cc)) (λ q. absurd (over_not_live t.phase w q)) h)
  newest_after runs g h (next_name a b k l w i j n) = newest_same runs a b (moved_newest runs n (λ _. w) (λ q. absurd (cc)) (λ q. absurd (over_not_live t.phase w q)) h)
  newest_after runs g h (told a b k l v i j n) =
      let f = is_told a in
      let new : List ChildRun = f.run ∷ runs in
      let is : runs_after o e bytes runs ≡ new = run_case e o bytes runs a ∙ ap (λ (r : Option ChildRun). with_told r runs) f.is in
      subst (λ (rs : List ChildRun). HasNewest lg t rs) (sym is) (record { sent = inl n; early = λ q. f.unstarted; live = λ q. absurd (cc) })
  newest_after runs g h (begun a b k l w r i j n) = subst (λ (rs : List ChildRun). HasNewest lg t rs) (sym (start_case e o bytes runs b)) (begun_newest runs k l r n h)
  newest_after runs g h (sent d a b k l w i j n) = newest_same runs a b (sent_newest runs k w n (g d k) h)

  -- ---- all runs

  started_run : (run : ChildRun) → run.started ≡ 0 → IsRun lg run → IsRun lg (record run { started = run.started + 1 })
  started_run run z r = record { claimed = r.claimed; once = omega (arith, z); idle = λ k. absurd (omega (arith, k)) }

  wrote_run : (run : ChildRun) → run.started ≡ 1 → IsRun lg run → IsRun lg (record run { wrote = run.wrote ++ bytes })
  wrote_run run z r = record { claimed = r.claimed; once = r.once; idle = λ k. absurd (cc) }

  pub runs_are_after : (runs : List ChildRun) → (is_started e ≡ true → is_early s.phase ≡ true) → ((size : ℕ) → e ≡ event.Output size → is_live s.phase ≡ true) → HasNewest lg s runs →
      ((run : ChildRun) → Among run runs → IsRun lg run) → (run : ChildRun) → Among run (runs_after o e bytes runs) → IsRun lg run
  runs_are_after runs early live h each = by_event e refl runs h each
    where
      by_told : (r : Option ChildRun) (rs : List ChildRun) → r ≡ o → is_run e ≡ true → ((run : ChildRun) → Among run rs → IsRun lg run) → (run : ChildRun) → Among run (with_told r rs) → IsRun lg run
      by_told None rs is a each run m = absurd (let f = is_told a in let z = f.is in cc)
      by_told (Some r) rs is a each run here = (let f = is_told a in let z : f.run ≡ run = (let y = f.is in cc) in subst (IsRun lg) z f.stands)
      by_told (Some r) rs is a each run (later m) = each run m

      by_start : (rs : List ChildRun) → is_early s.phase ≡ true → HasNewest lg s rs → ((run : ChildRun) → Among run rs → IsRun lg run) → (run : ChildRun) → Among run (with_start rs) → IsRun lg run
      by_start [] k h each run m = elim m [ ]
      by_start (r ∷ rs) k h each run here = started_run r (h.early k) (each r here)
      by_start (r ∷ rs) k h each run (later m) = each run (later m)

      by_output : (rs : List ChildRun) → is_live s.phase ≡ true → HasNewest lg s rs → ((run : ChildRun) → Among run rs → IsRun lg run) → (run : ChildRun) → Among run (with_output bytes rs) → IsRun lg run
      by_output [] k h each run m = elim m [ ]
      by_output (r ∷ rs) k h each run here = wrote_run r (h.live k) (each r here)
      by_output (r ∷ rs) k h each run (later m) = each run (later m)

      by_event : (y : BotEvent) → y ≡ e → (rs : List ChildRun) → HasNewest lg s rs → ((run : ChildRun) → Among run rs → IsRun lg run) → (run : ChildRun) → Among run (runs_after o y bytes rs) → IsRun lg run
      by_event (event.ClaimRun x i g d) is rs h each = by_told o rs refl (sym (ap is_run is)) each
      by_event event.Started is rs h each = by_start rs (early (sym (ap is_started is))) h each
      by_event (event.Output size) is rs h each = by_output rs (live size (sym is)) h each
      by_event y is rs h each = each

  -- ---- what was sent

  over_head : (run : ChildRun) (k j : ℕ) (chunk : Option Chunk) (last : Option Last) → (is_over s.phase ≡ true → is_over t.phase ≡ true) → CarriesNewest lg (is_over s.phase) run k j chunk last → IfSome last (λ end. is_over t.phase ≡ true)
  over_head run k j chunk None w c = tt
  over_head run k j chunk (Some end) w c = w c.closed

  later_head : (run : ChildRun) (k j : ℕ) (chunk : Option Chunk) (last : Option Last) → is_live s.phase ≡ true → CarriesNewest lg (is_over s.phase) run k j chunk last →
      CarriesNewest lg (is_over t.phase) (record run { wrote = run.wrote ++ bytes }) k j chunk last
  later_head run k j chunk None v c = record { task = c.task; try_is = c.try_is; carries = record { piece = pieces_longer run.wrote bytes chunk c.carries.piece; whole = tt }; closed = tt }
  later_head run k j chunk (Some end) v c = absurd (over_not_live s.phase c.closed v)

  same_head : (run run2 : ChildRun) (k j : ℕ) (chunk : Option Chunk) (last : Option Last) → run2.task ≡ run.task → run2.try_no ≡ run.try_no → run2.wrote ≡ run.wrote → (is_over s.phase ≡ true → is_over t.phase ≡ true) →
      CarriesNewest lg (is_over s.phase) run k j chunk last → CarriesNewest lg (is_over t.phase) run2 k j chunk last
  same_head run run2 k j chunk last i i2 y w c =
      record { task = i ∙ c.task; try_is = i2 ∙ c.try_is; carries = subst (λ (x : List ℕ). CarriesPiece lg x k j chunk last) (sym y) c.carries; closed = over_head run k j chunk last w c }

  pub carried_after : (runs : List ChildRun) (k j : ℕ) (chunk : Option Chunk) (last : Option Last) → ((size : ℕ) → e ≡ event.Output size → is_live s.phase ≡ true) → Walks s s.phase e t →
      CarriesSome lg (is_over s.phase) runs k j chunk last → CarriesSome lg (is_over t.phase) (runs_after o e bytes runs) k j chunk last
  carried_after runs k j chunk last live walk c = by_event e refl runs c
    where
      over : is_run e ≡ false → is_over s.phase ≡ true → is_over t.phase ≡ true
      over r = walk_over s s.phase e (t.first, t.session, t.limits.steps) t.claim t.run.sent t.phase walk r

      by_told : (r : Option ChildRun) (rs : List ChildRun) → r ≡ o → is_run e ≡ true → CarriesSome lg (is_over s.phase) rs k j chunk last → CarriesSome lg (is_over t.phase) (with_told r rs) k j chunk last
      by_told None rs is a c = absurd (let f = is_told a in let z = f.is in cc)
      by_told (Some r) [] is a c = absurd c
      by_told (Some r) (run ∷ rs) is a (inl c) = inr (record { run = run; among = here; task = c.task; try_is = c.try_is; carries = c.carries })
      by_told (Some r) (run ∷ rs) is a (inr c) = inr (record { run = c.run; among = later c.among; task = c.task; try_is = c.try_is; carries = c.carries })

      by_start : (rs : List ChildRun) → is_run e ≡ false → CarriesSome lg (is_over s.phase) rs k j chunk last → CarriesSome lg (is_over t.phase) (with_start rs) k j chunk last
      by_start [] a c = c
      by_start (run ∷ rs) a (inl c) = inl (same_head run (record run { started = run.started + 1 }) k j chunk last refl refl refl (over a) c)
      by_start (run ∷ rs) a (inr c) = inr c

      by_output : (rs : List ChildRun) → is_live s.phase ≡ true → CarriesSome lg (is_over s.phase) rs k j chunk last → CarriesSome lg (is_over t.phase) (with_output bytes rs) k j chunk last
      by_output [] v c = c
      by_output (run ∷ rs) v (inl c) = inl (later_head run k j chunk last v c)
      by_output (run ∷ rs) v (inr c) = inr c

      by_same : (rs : List ChildRun) → is_run e ≡ false → CarriesSome lg (is_over s.phase) rs k j chunk last → CarriesSome lg (is_over t.phase) rs k j chunk last
      by_same [] a c = c
      by_same (run ∷ rs) a (inl c) = inl (same_head run run k j chunk last refl refl refl (over a) c)
      by_same (run ∷ rs) a (inr c) = inr c

      by_event : (y : BotEvent) → y ≡ e → (rs : List ChildRun) → CarriesSome lg (is_over s.phase) rs k j chunk last → CarriesSome lg (is_over t.phase) (runs_after o y bytes rs) k j chunk last
      by_event (event.ClaimRun x i g d) is rs c = by_told o rs refl (sym (ap is_run is)) c
      by_event event.Started is rs c = by_start rs (sym (ap is_run is)) c
      by_event (event.Output size) is rs c = by_output rs (live size (sym is)) c
      by_event y is rs c = by_same rs (sym (ap is_run is)) c
