-- The numbers of a base's blobs rise from 1.
use Rattle.std.proofs.Common.{◌≡◌, ℕ, suc, ◌<◌, ◌≤◌, List, [], ◌∷◌, All, AllPairs, arith}
use Rattle.std.proofs.lemmas.List.Elements.{All-head, All-weaker}
use Rattle.base_lines.specs.Types.{BlobRow, PoolState}
use Rattle.swarm_model.specs.BaseRules.{AreBaseRows}
use Rattle.base_lines.specs.Reading.{RiseFrom}

abbrev Rise : List BlobRow → Type 0
Rise blobs = AllPairs (λ a b. a.no < b.no) blobs

rise_from : (low : ℕ) (blobs : List BlobRow) → All (λ blob. low < blob.no) blobs → Rise blobs → RiseFrom low blobs
rise_from low [] above rise = tt
rise_from low (b ∷ blobs) above rise = (
  All-head (λ (blob : BlobRow). low < blob.no) b blobs above,
  rise_from b.no blobs (λ k d inside. rise 0 (suc k) d (omega arith) (omega (arith, inside))) (λ i j d less inside. rise (suc i) (suc j) d (omega (arith, less)) (omega (arith, inside))),
)

pub numbers_rise : (s : PoolState) → AreBaseRows s → RiseFrom 0 s.blobs
numbers_rise s rows = rise_from 0 s.blobs (All-weaker (λ (blob : BlobRow). 1 ≤ blob.no) (λ (blob : BlobRow). 0 < blob.no) (λ blob h. omega (arith, h)) s.blobs rows.blobs) rows.rising
