-- Pools with blobs, and tasks that need them.
use Rattle.std.specs.Prelude.{ℕ, true, List, [], ◌∷◌, ◌++◌, Option, Some, None, slice_get, codes}
use Rattle.std.specs.Option.{option_map}
use Rattle.model_examples.specs.Types.{NewTask, PoolSettings, PoolState, Request, Reply}
use Rattle.swarm_model.specs.declared.request.Request.TheVariants as ask
use Rattle.swarm_model.specs.Finding.{blob_of}
use Rattle.swarm_model.specs.Examples.{settings, properties, small_task}
use Rattle.model_examples.specs.BotExamples.{from}
use Rattle.model_examples.specs.EndExamples.{begun}

-- a pool in which a blob is kept for a minute
abbrev pub brief : PoolSettings
brief = record settings { blob_life_secs = 60 }

abbrev pub pool_after : List (ℕ × Request) → PoolState
pool_after asked = (from brief asked).pool

abbrev pub replies_to : List (ℕ × Request) → List Reply
replies_to asked = (from brief asked).replies

abbrev pub puts : List ℕ → Request
puts digest = ask.PutBlob digest digest 5

-- until when a blob is kept
abbrev pub kept_until : List ℕ → PoolState → Option ℕ
kept_until digest s = option_map (λ blob. blob.deadline) (blob_of s digest)

-- a task with one input, of this digest and size
abbrev pub with_input : List ℕ → ℕ → NewTask
with_input digest size =
    record (small_task 600) {
      task_slices =
          (record {
            expiration_secs = 600;
            wait_for_capacity = true;
            properties = record properties { inputs = (record { path = codes "in"; digest = digest; size = size }) ∷ [] };
          }) ∷ [];
    }

-- bot b1 reports five bytes of the output of task 1, from a place on
abbrev pub writes : ℕ → List ℕ → Request
writes start digest = ask.Update (codes "b1") 1 1 (Some (record { start = start; size = 5; digest = digest })) None

-- what is shown of an output of ten bytes, in two chunks
abbrev pub shown_from : ℕ → ℕ → Option Reply
shown_from offset most =
    slice_get (replies_to (begun ++ (1001, writes 0 (codes "a")) ∷ (1002, writes 5 (codes "b")) ∷ (1003, ask.Stdout 1 0 offset most) ∷ [])) 5
