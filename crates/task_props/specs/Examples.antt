-- A small task, its canonical text and its hash as other programs give them.
use Rattle.std.specs.Prelude.{ℕ, false, List, [], ◌∷◌, codes}
use Rattle.task_props.specs.declared.properties.Properties.{Properties}

-- the command `true` on any bot of the pool
abbrev pub small : Properties
small =
    record {
      command = codes "true" ∷ [];
      env = [];
      dimensions = (codes "pool", codes "default") ∷ [];
      caches = [];
      inputs = [];
      outputs = [];
      execution_timeout_secs = 0;
      io_timeout_secs = 0;
      grace_period_secs = 30;
      idempotent = false;
    }

abbrev pub small_text : List ℕ
small_text = codes "{\"caches\":[],\"command\":[\"true\"],\"dimensions\":[[\"pool\",\"default\"]],\"env\":[],\"execution_timeout_secs\":0,\"grace_period_secs\":30,\"idempotent\":false,\"inputs\":[],\"io_timeout_secs\":0,\"outputs\":[]}"

-- what `sha256sum` says of that text
abbrev pub small_hash : List ℕ
small_hash =
    0x2A ∷ 0xDF ∷ 0xB4 ∷ 0xA9 ∷ 0xB3 ∷ 0x5C ∷ 0x88 ∷ 0x72 ∷ 0xD3 ∷ 0x3E ∷ 0xF1 ∷
    0x60 ∷ 0x29 ∷ 0x6F ∷ 0x4C ∷ 0x0E ∷ 0xEF ∷ 0xD2 ∷ 0x13 ∷ 0x88 ∷ 0x10 ∷ 0x5F ∷
    0x6C ∷ 0xE7 ∷ 0xDE ∷ 0x09 ∷ 0x93 ∷ 0x8D ∷ 0x7B ∷ 0xA4 ∷ 0x91 ∷ 0xA7 ∷ []
