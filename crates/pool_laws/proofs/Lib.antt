pub mod Lists
pub mod Earliest
pub mod Answering
pub mod Preconditions
mod Reusing
mod Decisions
pub mod EntryPreconditions
pub mod Outputs
pub mod Rows
pub mod Tasks
pub mod Bots
pub mod Runs
pub mod Origins
pub mod Numbers
pub mod Claimed
pub mod UuidLaw
mod BlobLists
pub mod BlobChanges
pub mod Blobs
pub mod Moments
mod Limits
pub mod Names
pub mod Sound
pub mod Alike
pub mod EntryRequest
pub mod Legality
pub mod Tracks
pub mod Phases
pub mod PhaseSteps
pub mod VerdictFrom
pub mod VerdictLaw
pub mod Finals
pub mod TallyLaw
mod Order
pub mod ClaimLaw
pub mod Shown
pub mod Refusals
pub mod Carrying
pub mod NamedBlobs
pub mod Repeating
mod DueLaw
mod SourceLaw
pub mod RepeatLaws
pub mod OutcomeLaw
mod OutputLaw
pub mod BlobLaws
pub mod MachineLaws
mod Weights
mod BaseTasks
pub mod BaseOrder
mod BaseRows
mod BaseNeeds
pub mod BaseLaws
mod Worked
pub mod BaseVerdicts
pub mod BaseClaims
pub mod Rests
mod WorkedBase
mod WorkedRules
