-- What one exchange does.
use Rattle.std.specs.Prelude.{◌≡◌, ◌⊎◌, ℕ, List, [], ◌∷◌, ◌++◌, drop, Option, Some, IfSome, None, option_map}
use Rattle.sw_base.specs.Faults.{Rose}
use Rattle.sw_base.specs.Link.{LinkState, Moves, NoFault}
use Rattle.sw_base.specs.Told.{Gains}
use Rattle.sw_base.specs.Dialers.{DialerState, first_answer}
use Rattle.routes.specs.declared.route.Route.{Route}
use Rattle.reply_reader.specs.Replies.{IsReply}
use Rattle.server_calls.specs.declared.told.Told.{Told as ToldValue}
use Rattle.server_calls.specs.Reading.{told_of}
use Rattle.server_calls.specs.declared.exchanged.Exchanged.{Exchanged}
use Rattle.server_calls.specs.declared.exchanged.Exchanged.TheVariants.{Told, NoReply, Lost, Memory}

-- the reply at the front of the bytes tells this of a call
abbrev pub Tells : Route → List ℕ → ToldValue → Type 0
Tells route bytes t = (code : ℕ) × (body : List ℕ) × IsReply bytes code body × (told_of route code body ≡ Some t)

-- no reply stands there, or one that tells nothing of a call
abbrev pub TellsNothing : Route → List ℕ → Type 0
TellsNothing route bytes = (code : ℕ) (body : List ℕ) → IsReply bytes code body → told_of route code body ≡ None

-- one link carried the request and the reply
pub record ExchangesOver (route : Route) (s t : LinkState) (request : List ℕ) (result : Exchanged) : Type 0 where
  pub taken : List ℕ
  pub sent : List ℕ
  pub back : List ℕ
  pub moves : Moves s t taken sent
  pub whole : request ≡ sent ++ back
  pub told : (x : ToldValue) → result ≡ Told x → (back ≡ []) × NoFault s t × IfSome s.left (λ bytes. Tells route bytes x)
  pub no_reply : result ≡ NoReply → (back ≡ []) × NoFault s t × IfSome s.left (TellsNothing route)
  pub lost : result ≡ Lost → Rose s.read_faults t.read_faults ⊎ Rose s.write_faults t.write_faults

-- A link was dialed and has ended, to which the request was written but for `back`. Nothing is left
-- open by that.
pub record ExchangedBytes (s t : DialerState) (address request back : List ℕ) : Type 0 where
  pub link : LinkState
  pub sent : List ℕ
  pub dialed : Gains s.dialed t.dialed (address ∷ [])
  pub answers : t.answers ≡ option_map (drop 1) s.answers
  pub ended : Gains s.ended t.ended (link ∷ [])
  pub out : t.out ≡ s.out
  pub whole : request ≡ sent ++ back
  pub written : IfSome s.answers (λ all. link.written ≡ Some sent)

-- a link carried the whole request, and no call on it failed
pub record HasAsked (s t : DialerState) (address request : List ℕ) : Type 0 where
  pub talked : ExchangedBytes s t address request []
  pub faults : t.faults ≡ s.faults

-- no link was dialed
pub record IsUntouched (s t : DialerState) : Type 0 where
  pub dialed : t.dialed ≡ s.dialed
  pub answers : t.answers ≡ s.answers
  pub ended : t.ended ≡ s.ended
  pub out : t.out ≡ s.out

-- no link was dialed, or one was and a front of the request was written to it
abbrev pub MayHaveExchanged : DialerState → DialerState → List ℕ → List ℕ → Type 0
MayHaveExchanged s t address request = IsUntouched s t ⊎ ((back : List ℕ) × ExchangedBytes s t address request back)

-- What all the bytes of the dialed link tell of the call, read or not, or that they tell nothing: both
-- only where no call failed. A failed call raised the count of the dialer.
abbrev pub IsExchanged : DialerState → DialerState → List ℕ → List ℕ → Route → Exchanged → Type 0
IsExchanged s t address request route (Told x) = HasAsked s t address request × IfSome s.answers (λ all. Tells route (first_answer all) x)
IsExchanged s t address request route NoReply = HasAsked s t address request × IfSome s.answers (λ all. TellsNothing route (first_answer all))
IsExchanged s t address request route Lost = Rose s.faults t.faults × MayHaveExchanged s t address request
IsExchanged s t address request route Memory = MayHaveExchanged s t address request
