-- Turns in a row, and a part of them.
use Rattle.std.proofs.Common.{◌≡◌, ◌⊎◌, inl, inr, ℕ, zero, suc, Bool, true, false, ◌+◌, ◌<◌, List, [], ◌∷◌, ◌++◌, length, get_or, take, Option, Some, None, refl, ap, sym, ◌∙◌, subst, arith, append-nil}
use Rattle.std.specs.Prelude.{slice_get, IsTrue, IsSomeAnd, MatchOption, Result, Ok, Err, OnOk, OnErr, ◌&&◌}
use Rattle.std.specs.Option.{option_map_or}
use Rattle.std.proofs.lemmas.Bool.{and_parts}
use Rattle.std.proofs.lemmas.List.{take_more}
use Rattle.std.proofs.lemmas.Option.{slice_get_read, slice_get_past, none-some}
use Rattle.batch_plays.specs.Types.{Entry, PoolSettings, Settings, Request, Told}
use Rattle.swarm_model.specs.BaseRules.{IsBase}
use Rattle.swarm_model.specs.Bases.{Base}
use Rattle.swarm_model.specs.Fits.{fits}
use Rattle.swarm_model.specs.MachineState.{MachineState, IsHistory}
use Rattle.swarm_batch.specs.Batches.{BatchValue, next_line}
use Rattle.batch_plays.specs.declared.saved_batch.SavedBatch.{SavedBatch}
use Rattle.batch_plays.specs.declared.turn.BatchTurn.{BatchTurn}
use Rattle.batch_plays.specs.declared.turn.BatchTurn.TheVariants as turn
use Rattle.batch_plays.specs.Saving.{marked, IsUnsaved}
use Rattle.batch_plays.specs.Turns.{Settles, SendsLine, SendsNext, LosesReply, OfNext, Turned, Played, PlayedPart, MayLose, may_ask, carries}
use Rattle.batch_plays.specs.World.{World, world_of, new_files}
use Rattle.swarm_batch.specs.Marks.{progress_text}

-- what holds of the only pool
pub of_only : (P : PoolSettings → Type 0) (pools : List PoolSettings) (pool : PoolSettings) (place : ℕ) → pools ≡ pool ∷ [] → IsSomeAnd (slice_get pools place) P → P pool
of_only P pools pool place one h = by_place place (subst (λ (l : List PoolSettings). IsSomeAnd (slice_get l place) P) one h)
  where
    by_place : (n : ℕ) → IsSomeAnd (slice_get (pool ∷ []) n) P → P pool
    by_place zero k = k
    by_place (suc n) k = absurd (subst (λ (o : Option PoolSettings). IsSomeAnd o P) (slice_get_past (pool ∷ []) (suc n) (omega arith)) k)

-- the only pool may be asked what passes the test
pub asked_fits : (settings : Settings) (pool : PoolSettings) (request : Request) (bytes : List ℕ) (b : Bool) → settings.pools ≡ pool ∷ [] → b ≡ may_ask settings request bytes → b ≡ true → IsTrue (fits pool request)
asked_fits settings pool request bytes b one is passes =
    let both = and_parts (option_map_or (λ (p : PoolSettings). fits p request) (slice_get settings.pools 0) false) (carries request bytes) (sym is ∙ passes) in
    subst (λ (l : List PoolSettings). option_map_or (λ (p : PoolSettings). fits p request) (slice_get l 0) false ≡ true) one both.0

pub on_ok : {T E : Type 0} → (r : Result T E) (P Q : Type 0) → (P → Q) → OnOk r P → OnOk r Q
on_ok (Ok x) P Q f p = f p
on_ok (Err e) P Q f p = tt

pub on_err : {T E : Type 0} → (r : Result T E) (P Q : Type 0) → (P → Q) → OnErr r P → OnErr r Q
on_err (Ok x) P Q f p = tt
on_err (Err e) P Q f p = f p

-- a machine's base is one of the settings that it names
pub own_base : (kept : MachineState) → IsHistory kept → IsBase kept.start.rows.settings kept.start.count kept.start.rows
own_base kept h = subst (λ (s : PoolSettings). IsBase s kept.start.count kept.start.rows) (sym h.base.own) h.base

-- a batch of which nothing was saved yet
pub begun_files : (b : BatchValue) (s t : List ℕ) → s ≡ progress_text b.head b.marks → t ≡ progress_text b.head b.marks → new_files b ≡ record { batch = b; saved = s; before = t }
begun_files b s t saved before = ap (λ (p : List ℕ × List ℕ). record { batch = b; saved = p.0; before = p.1 }) (pair saved before)
  where
    pair : {x y u v : List ℕ} → x ≡ u → y ≡ v → ◌≡◌ {A = List ℕ × List ℕ} (u, v) (x, y)
    pair e f = cc

pub no_entries : (log : List Entry) → Settles log log
no_entries log = record { settled = []; deadlines = tt; log = sym (append-nil log) }

module _ (settings : Settings) (who : List ℕ) where
  -- ---- turns in a row

  pub played_both : (xs ys : List BatchTurn) (old mid new : World) → Played settings who old xs mid → Played settings who mid ys new → Played settings who old (xs ++ ys) new
  played_both [] ys old mid new h k = subst (λ (w : World). Played settings who w ys new) h k
  played_both (x ∷ xs) ys old mid new h k = (h.0, h.1, played_both xs ys h.0 mid new h.2 k)

  pub played_one : (t : BatchTurn) (old new : World) → Turned settings who old t new → Played settings who old (t ∷ []) new
  played_one t old new h = (new, h, refl)

  next_turn : (turns : List BatchTurn) (i : ℕ) (t : BatchTurn) → i < length turns → t ≡ get_or turns i t → take (i + 1) turns ≡ take i turns ++ t ∷ []
  next_turn turns i t low is = take_more turns i t low ∙ ap (λ (x : BatchTurn). take i turns ++ x ∷ []) (sym is)

  pub played_more : (turns : List BatchTurn) (i : ℕ) (t : BatchTurn) (old mid new : World) → i < length turns → t ≡ get_or turns i t → Played settings who old (take i turns) mid → Turned settings who mid t new →
      Played settings who old (take (i + 1) turns) new
  played_more turns i t old mid new low is h k =
      subst (λ (l : List BatchTurn). Played settings who old l new) (sym (next_turn turns i t low is)) (played_both (take i turns) (t ∷ []) old mid new h (played_one t mid new k))

  -- ---- a part of them

  -- nothing of the turns but deadlines
  pub part_none : (turns : List BatchTurn) (old : World) (log : List Entry) → Settles old.log log → PlayedPart settings who old turns log old.files.batch
  part_none turns old log s = record { count = 0; lost = []; may_lose = inl refl; mid = old; played = refl; settles = s; batch_is = refl }

  -- one turn, whole
  pub part_whole : (t : BatchTurn) (old new : World) → Turned settings who old t new → PlayedPart settings who old (t ∷ []) new.log new.files.batch
  part_whole t old new h = record { count = 1; lost = []; may_lose = inl refl; mid = new; played = (new, h, refl); settles = no_entries new.log; batch_is = refl }

  -- a line whose reply is lost
  pub part_lost : (moment : ℕ) (old new : World) → Turned settings who old (turn.Lost moment) new → PlayedPart settings who old (turn.Send moment ∷ []) new.log new.files.batch
  part_lost moment old new h =
      record { count = 0; lost = turn.Lost moment ∷ []; may_lose = inr (moment, refl, refl); mid = new; played = (new, h, refl); settles = no_entries new.log; batch_is = refl }

  -- a part of one turn behind others
  pub part_more : (turns : List BatchTurn) (i : ℕ) (t : BatchTurn) (old mid : World) (log : List Entry) (b : BatchValue) → i < length turns → t ≡ get_or turns i t → Played settings who old (take i turns) mid →
      PlayedPart settings who mid (t ∷ []) log b → PlayedPart settings who old turns log b
  part_more turns i t old mid log b low is h p = by_count p.count p.may_lose p.played
    where
      at : slice_get turns i ≡ Some t
      at = slice_get_read turns (length turns) i t refl low is

      none_lost : (n : ℕ) → MayLose (slice_get (t ∷ []) (suc n)) p.lost → p.lost ≡ []
      none_lost n (inl e) = e
      none_lost n (inr e) = absurd (none-some (turn.Send e.0) (sym (slice_get_past (t ∷ []) (suc n) (omega arith)) ∙ e.1))

      by_count : (n : ℕ) → MayLose (slice_get (t ∷ []) n) p.lost → Played settings who mid (take n (t ∷ []) ++ p.lost) p.mid → PlayedPart settings who old turns log b
      by_count zero may plays = record {
        count = i;
        lost = p.lost;
        may_lose = subst (λ (o : Option BatchTurn). MayLose o p.lost) (sym at) may;
        mid = p.mid;
        played = played_both (take i turns) p.lost old mid p.mid h plays;
        settles = p.settles;
        batch_is = p.batch_is;
      }
      by_count (suc n) may plays = record {
        count = i + 1;
        lost = [];
        may_lose = inl refl;
        mid = p.mid;
        played = subst (λ (l : List BatchTurn). Played settings who old l p.mid) (sym (append-nil (take (i + 1) turns) ∙ next_turn turns i t low is))
            (played_both (take i turns) (t ∷ []) old mid p.mid h (subst (λ (l : List BatchTurn). Played settings who mid l p.mid) (one n ∙ ap (λ (l : List BatchTurn). t ∷ l) (none_lost n may)) plays));
        settles = p.settles;
        batch_is = p.batch_is;
      }
        where
          one : (m : ℕ) → take (suc m) (t ∷ []) ++ p.lost ≡ t ∷ p.lost
          one zero = refl
          one (suc m) = refl

  -- ---- one turn of a machine

  module _ (a c : MachineState) (start : c.start ≡ a.start) where
    same_start : (f : SavedBatch) → world_of c f ≡ record (world_of a f) { log = c.log }
    same_start f = ap (λ (s : Base). record { start = s; log = c.log; files = f }) start

    module _ (f : SavedBatch) (line moment : ℕ) (t : Told) (next : next_line f.batch ≡ Some line) (sends : SendsLine settings who a.start f.batch line moment a.log c.log t) where
      pub sent_turn : (g : SavedBatch) → g ≡ marked f t → Turned settings who (world_of a f) (turn.Send moment) (world_of c g)
      sent_turn g is =
          subst (λ (o : Option ℕ). MatchOption o (world_of c g ≡ world_of a f) (SendsNext settings who (world_of a f) moment (world_of c g))) (sym next)
          (record { told = t; sent = sends; is = same_start g ∙ ap (λ (x : SavedBatch). record { start = a.start; log = c.log; files = x }) is })

      pub lost_turn : Turned settings who (world_of a f) (turn.Lost moment) (world_of c f)
      lost_turn = subst (λ (o : Option ℕ). MatchOption o (world_of c f ≡ world_of a f) (LosesReply settings who (world_of a f) moment (world_of c f))) (sym next) (record { told = t; sent = sends; is = same_start f })

      -- memory was wanting behind the reply
      pub stopped_turn : (g : SavedBatch) → IsUnsaved f t g → PlayedPart settings who (world_of a f) (turn.Send moment ∷ []) c.log g.batch
      stopped_turn g (inl is) = subst (λ (x : SavedBatch). PlayedPart settings who (world_of a f) (turn.Send moment ∷ []) c.log x.batch) (sym is) (part_lost moment (world_of a f) (world_of c f) lost_turn)
      stopped_turn g (inr is) =
          subst (λ (x : SavedBatch). PlayedPart settings who (world_of a f) (turn.Send moment ∷ []) c.log x.batch) (sym is)
          (part_whole (turn.Send moment) (world_of a f) (world_of c (marked f t)) (sent_turn (marked f t) refl))

  -- where every line is done, nothing changes
  pub none_turned : (w : World) (P : ℕ → Type 0) → next_line w.files.batch ≡ None → OfNext w w P
  none_turned w P next = subst (λ (o : Option ℕ). MatchOption o (w ≡ w) P) (sym next) refl
