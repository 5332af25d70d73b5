-- A desk through whose turn its machine is read or written.
use Rattle.std.proofs.Common.{◌≡◌, ℕ, ◌+◌, ◌<◌, ◌^◌, Bool, List, [], ◌∷◌, ◌++◌, length, Option, Result, IfOk, IsTrue, refl, sym, ap, subst, ◌∙◌}
use Rattle.swarm_model.specs.declared.answer.Answer.{Answer}
use Rattle.shared_doors.specs.Types.{Entry, Request, Pass, Turn, Turnstile}
use Rattle.swarm_model.specs.Answers.{answer}
use Rattle.swarm_model.specs.Bases.{Base, empty_base}
use Rattle.swarm_model.specs.Deadlines.{due_entry}
use Rattle.swarm_model.specs.History.{IsLegal}
use Rattle.swarm_model.specs.MachineState.{MachineState, IsHistory}
use Rattle.swarm_history.specs.Settling.{Adds, IsUnchanged}
use Rattle.turnstile.specs.Lending.{turn_with}
use Rattle.turnstile.specs.Passes.{HasNumbersOf, Holds, IsRaised, IsTurn, first_of, fixed_of, lock_of, made, number, numbers, of_value, pass_of, raised, seen, told, turns}
use Rattle.turnstile.proofs.Lending.{Holds-one, Holds-turn_with, IsTurn-turn_with, turn_with-same}
use Rattle.shared_doors.specs.declared.kept.Kept.{Kept}
use Rattle.shared_doors.specs.declared.shared_desk.SharedDesk.{SharedDesk}
use Rattle.shared_doors.specs.declared.view.Lasting.{Lasting}
use Rattle.shared_doors.specs.declared.view.PoolView.{PoolView}
use Rattle.shared_doors.specs.Desks.{IsDesk, no_state}
use Rattle.shared_doors.specs.Lasting.{lasting_of, start_in, IsStanding}
use Rattle.shared_doors.specs.Views.{look}
use Rattle.shared_doors.proofs.Joining.{known_same}

module _ {A B : Type 0} where
  abbrev pub desk_of : Turn (Kept A B) Entry Lasting → SharedDesk A B
  desk_of t = record { turn = t }

  -- nothing was written
  pub same_desk : (t : Turn (Kept A B) Entry Lasting) (v : Kept A B) → Holds t v → desk_of (turn_with t v) ≡ desk_of t
  same_desk t v is = ap desk_of (turn_with-same t v is)

-- ---- what is known of a machine is known of what is kept

pub due_along : (old kept : MachineState) (due : Option Entry) (moment n pass : ℕ) → old ≡ kept → pass ≡ n → due ≡ due_entry kept.pool moment pass → due ≡ due_entry old.pool moment n
due_along old kept due moment n pass is number exact =
    exact ∙ ap (λ (k : MachineState). due_entry k.pool moment pass) (sym is) ∙ ap (λ (m : ℕ). due_entry old.pool moment m) number

pub answer_along : {E : Type 0} (old kept : MachineState) (result : Result Answer E) (who : List ℕ) (moment n pass : ℕ) (request : Request) → old ≡ kept → pass ≡ n
    → IfOk result (λ a. a ≡ answer kept.pool who moment pass request) → IfOk result (λ a. a ≡ answer old.pool who moment n request)
answer_along old kept result who moment n pass request is number exact =
    subst (λ (m : ℕ). IfOk result (λ a. a ≡ answer old.pool who moment m request)) number
    (subst (λ (k : MachineState). IfOk result (λ a. a ≡ answer k.pool who moment pass request)) (sym is) exact)

pub adds_along : (old new kept next : MachineState) (entry : Entry) → old ≡ kept → new ≡ next → Adds kept next entry → Adds old new entry
adds_along old new kept next entry is becomes adds =
    subst (λ (k : MachineState). Adds k new entry) (sym is) (subst (λ (k : MachineState). Adds kept k entry) (sym becomes) adds)

-- ---- a turn

module _ {V : Type 0} (state : V → MachineState) where
  -- what is kept is what the value keeps that is with the turn
  pub kept_is : (t : Turn V Entry Lasting) (v : V) → Holds t v → of_value state no_state t ≡ state v
  kept_is t v is = ap (first_of state no_state) is

  -- a turn that was just taken
  pub ready_first : (sure : Bool) (t : Turn V Entry Lasting) (lock : Turnstile V Entry Lasting) → lock_of t ≡ lock → IsTrue sure → IsTurn (λ x. lasting_of (state x)) t
      → IsStanding (fixed_of (λ x. lasting_of (state x)) lock) → IsRaised (λ x. (state x).log) (λ x. lasting_of (state x)) t → IsDesk state sure t
  ready_first sure t lock is is_sure turn stands raised = record {
    is_sure = is_sure;
    turn = turn;
    standing = subst (λ (l : Turnstile V Entry Lasting). IsStanding (fixed_of (λ x. lasting_of (state x)) l)) (sym is) stands;
    raised = raised;
  }

  module _ (sure : Bool) (t : Turn V Entry Lasting) (ready : IsDesk state sure t) where
    pub log_now : (of_value state no_state t).log ≡ raised t
    log_now = ap (λ (k : MachineState). k.log) (kept_is t ready.raised.0 ready.raised.1) ∙ ready.raised.2

    settings_now : (of_value state no_state t).pool.settings ≡ (fixed_of (λ x. lasting_of (state x)) (lock_of t)).settings
    settings_now = ap (λ (k : MachineState). k.pool.settings) (kept_is t ready.raised.0 ready.raised.1) ∙ ap (λ (l : Lasting). l.settings) ready.raised.3

    pub settings_at : (lock : Turnstile V Entry Lasting) → lock_of t ≡ lock → (of_value state no_state t).pool.settings ≡ (fixed_of (λ x. lasting_of (state x)) lock).settings
    settings_at lock is = settings_now ∙ ap (λ (l : Turnstile V Entry Lasting). (fixed_of (λ x. lasting_of (state x)) l).settings) is

    start_now : (of_value state no_state t).start ≡ empty_base (fixed_of (λ x. lasting_of (state x)) (lock_of t)).settings
    start_now = ap (λ (k : MachineState). k.start) (kept_is t ready.raised.0 ready.raised.1) ∙ (ap start_in ready.raised.3 ∙ ready.standing.2)

    -- nothing led to where the log begins
    pub begins_at : (lock : Turnstile V Entry Lasting) → lock_of t ≡ lock → (of_value state no_state t).start ≡ empty_base (fixed_of (λ x. lasting_of (state x)) lock).settings
    begins_at lock is = start_now ∙ ap (λ (l : Turnstile V Entry Lasting). empty_base (fixed_of (λ x. lasting_of (state x)) l).settings) is

    -- the value that was lent
    module _ (v : V) (is : Holds t v) where
      same : ready.raised.0 ≡ v
      same = Holds-one t ready.raised.0 v ready.raised.1 is

      pub log_is : (state v).log ≡ raised t
      log_is = ap (λ x. (state x).log) (sym same) ∙ ready.raised.2

      lasting_is : lasting_of (state v) ≡ fixed_of (λ x. lasting_of (state x)) (lock_of t)
      lasting_is = ap (λ x. lasting_of (state x)) (sym same) ∙ ready.raised.3

      pub standing_is : IsStanding (lasting_of (state v))
      standing_is = subst IsStanding (sym lasting_is) ready.standing

      start_is : (state v).start ≡ empty_base (fixed_of (λ x. lasting_of (state x)) (lock_of t)).settings
      start_is = ap (λ (k : MachineState). k.start) (sym (kept_is t v is)) ∙ start_now

      pub nothing_led : (state v).start.count ≡ 0
      nothing_led = ap (λ (b : Base). b.count) start_is

      pub legal_is : IsHistory (state v) → IsLegal (empty_base (fixed_of (λ x. lasting_of (state x)) (lock_of t)).settings).rows (raised t)
      legal_is history =
          subst (λ (l : List Entry). IsLegal (empty_base (fixed_of (λ x. lasting_of (state x)) (lock_of t)).settings).rows l) log_is
          (subst (λ (b : Base). IsLegal b.rows (state v).log) start_is history.legal)

      -- it was written to, and nothing was added
      pub ready_still : (w : V) → IsUnchanged (state v) (state w) → lasting_of (state w) ≡ lasting_of (state v) → IsDesk state sure (turn_with t w)
      ready_still w stays lasting = record {
        is_sure = ready.is_sure;
        turn = IsTurn-turn_with (λ x. lasting_of (state x)) t w ready.turn;
        standing = ready.standing;
        raised = (w, Holds-turn_with t v w is, stays.log ∙ log_is, lasting ∙ lasting_is);
      }

      -- an entry was added, which is to be raised
      pub grown : (w : V) (entry : Entry) → Adds (state v) (state w) entry → entry.pass ≡ number (pass_of t)
          → (x : V) × (e : Entry) × Holds (turn_with t w) x × ((state x).log ≡ raised (turn_with t w) ++ e ∷ []) × (e.pass ≡ number (pass_of (turn_with t w)))
      grown w entry adds numbered = (w, entry, Holds-turn_with t v w is, adds.log ∙ ap (λ l. l ++ entry ∷ []) log_is, numbered)

      pub short_is : length (state v).log < 2 ^ 32 → length (raised t) < 2 ^ 32
      short_is short = subst (λ (l : List Entry). length l < 2 ^ 32) log_is short

      -- it was raised
      module _ (w : V) (next : Turn V Entry Lasting) (raises : (x : V) → Holds (turn_with t w) x → Holds next x × (raised next ≡ (state x).log)) where
        pub ready_raised : IsTurn (λ x. lasting_of (state x)) next → lock_of next ≡ lock_of t → lasting_of (state w) ≡ lasting_of (state v) → IsDesk state sure next
        ready_raised turn lock lasting =
            let holds = raises w (Holds-turn_with t v w is) in record {
              is_sure = ready.is_sure;
              turn = turn;
              standing = subst (λ (l : Turnstile V Entry Lasting). IsStanding (fixed_of (λ x. lasting_of (state x)) l)) (sym lock) ready.standing;
              raised = (w, holds.0, sym holds.1, lasting ∙ (lasting_is ∙ ap (fixed_of (λ x. lasting_of (state x))) (sym lock)));
            }

        pub kept_raised : of_value state no_state next ≡ state w
        kept_raised = kept_is next w (raises w (Holds-turn_with t v w is)).0

-- ---- a turn's pass

same_pair : {X Y : Type 0} (a b : X) (c d : Y) → a ≡ b → c ≡ d → ◌≡◌ {A = X × Y} (a, c) (b, d)
same_pair a b c d e f = rw (e, f) refl

module _ {V : Type 0} where
  -- what stays through a turn
  pub rest_is : (one two : Turn V Entry Lasting) → lock_of two ≡ lock_of one → HasNumbersOf (pass_of one) (pass_of two) → told (pass_of two) ≡ told (pass_of one) → turns (pass_of two) ≡ turns (pass_of one)
      → ◌≡◌ {A = Turnstile V Entry Lasting × PoolView} (lock_of two, record (look (pass_of two)) { seen = [] }) (lock_of one, record (look (pass_of one)) { seen = [] })
  rest_is one two lock has f t =
      let p = pass_of one in
      let q = pass_of two in
      same_pair (lock_of two) (lock_of one) (record (look q) { seen = [] }) (record (look p) { seen = [] }) lock
      (known_same (number p) (number q) (turns p) (turns q) (numbers p) (numbers q) (made p) (made q) (told p) (told q) [] [] has.0 t has.1 has.2 f refl)

  -- a pass took a turn, through which all but its log stayed
  pub view_after : (p q : Pass V Entry Lasting) (one two : Turn V Entry Lasting)
      → HasNumbersOf p (pass_of one) × (told (pass_of one) ≡ told p) × (turns (pass_of one) ≡ turns p + 1)
      → ◌≡◌ {A = Turnstile V Entry Lasting × PoolView} (lock_of two, record (look (pass_of two)) { seen = [] }) (lock_of one, record (look (pass_of one)) { seen = [] })
      → HasNumbersOf (pass_of two) q × (told q ≡ told (pass_of two)) × (turns q ≡ turns (pass_of two))
      → look q ≡ record (look p) { turns = turns p + 1; seen = seen q }
  view_after p q one two enters stays leaves =
      let v = ap (λ (r : Turnstile V Entry Lasting × PoolView). r.1) stays in
      known_same (number p) (number q) (turns p + 1) (turns q) (numbers p) (numbers q) (made p) (made q) (told p) (told q) (seen q) (seen q)
      (leaves.0.0 ∙ (ap (λ (x : PoolView). x.number) v ∙ enters.0.0))
      (leaves.2 ∙ (ap (λ (x : PoolView). x.turns) v ∙ enters.2))
      (leaves.0.1 ∙ (ap (λ (x : PoolView). x.numbers) v ∙ enters.0.1))
      (leaves.0.2 ∙ (ap (λ (x : PoolView). x.made) v ∙ enters.0.2))
      (leaves.1 ∙ (ap (λ (x : PoolView). x.told) v ∙ enters.1))
      refl

  pub lock_after : (one two : Turn V Entry Lasting)
      → ◌≡◌ {A = Turnstile V Entry Lasting × PoolView} (lock_of two, record (look (pass_of two)) { seen = [] }) (lock_of one, record (look (pass_of one)) { seen = [] })
      → lock_of two ≡ lock_of one
  lock_after one two stays = ap (λ (r : Turnstile V Entry Lasting × PoolView). r.0) stays
