-- What one connection does, whatever answers its requests.
use Rattle.std.specs.Prelude.{◌≡◌, ℕ, ◌≤◌, List, [], ◌∷◌, length}
use Rattle.std.specs.List.{count_by}
use Rattle.httparse.specs.Grammar.{RequestHead}
use Rattle.sw_base.specs.Link.{LinkState}
use Rattle.swarm_http.specs.declared.connection_counts.ConnectionCounts.{ConnectionCounts}
use Rattle.swarm_http.specs.Replies.{Shown}
use Rattle.swarm_http.specs.Served.{Served, IsRequest, is_accepted}
use Rattle.swarm_http.specs.Endings.{Transfers, EndsAs, EndsAtFault}

-- what a request with this head and body does between two states of what answers it, where its reply has this status and these bytes
abbrev pub Does : Type 0 → Type 1
Does S = RequestHead → List ℕ → ℕ → Shown → S → S → Type 0

-- one request after another, each of which does this
abbrev pub DoesEach : {S : Type 0} → Does S → S → List Served → S → Type 0
DoesEach does old [] new = new ≡ old
DoesEach {S = S} does old (x ∷ xs) new = (mid : S) × IsRequest x.text x.body x.head × does x.head x.body x.status x.shown old mid × DoesEach does mid xs new

-- The whole connection, with nothing pending at its begin: there are requests and a rest such that
-- all that was read and written is theirs, in order, and each did what it does.
pub record Converses {S : Type 0} (does : Does S) (old new : S) (s t : LinkState) (counted : ConnectionCounts) : Type 0 where
  pub xs : List Served
  pub rest : List ℕ
  pub sent : List ℕ
  pub transfers : Transfers xs [] rest sent s t
  pub each : DoesEach does old xs new
  pub ends : EndsAs 65536 counted.ended xs rest sent s t
  pub few : length xs ≤ 65536
  pub faults : EndsAtFault counted.ended s t
  pub requests : counted.requests ≡ length xs
  pub accepted : counted.accepted ≡ count_by is_accepted xs
