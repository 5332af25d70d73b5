-- Properties in which every field is told, and their canonical text, written by hand.
use Rattle.std.specs.Prelude.{ℕ, true, List, [], ◌∷◌, ◌++◌, codes}
use Rattle.task_props.specs.declared.properties.Properties.{Properties}

-- the SHA-256 of `hello`, as `sha256sum` tells it
abbrev pub hello_digest : List ℕ
hello_digest =
    0x2C ∷ 0xF2 ∷ 0x4D ∷ 0xBA ∷ 0x5F ∷ 0xB0 ∷ 0xA3 ∷ 0x0E ∷ 0x26 ∷ 0xE8 ∷ 0x3B ∷
    0x2A ∷ 0xC5 ∷ 0xB9 ∷ 0xE2 ∷ 0x9E ∷ 0x1B ∷ 0x16 ∷ 0x1E ∷ 0x5C ∷ 0x1F ∷ 0xA7 ∷
    0x42 ∷ 0x5E ∷ 0x73 ∷ 0x04 ∷ 0x33 ∷ 0x62 ∷ 0x93 ∷ 0x8B ∷ 0x98 ∷ 0x24 ∷ []

abbrev pub full : Properties
full =
    record {
      command = codes "say" ∷ codes "\"hi\"" ∷ codes "a\\b" ∷ codes "two\nlines" ∷ (1 ∷ []) ∷ (0xC3 ∷ 0xBC ∷ []) ∷ [];
      env = (codes "LANG", codes "C") ∷ (codes "TZ", codes "UTC") ∷ [];
      dimensions = (codes "os", codes "Linux|Mac") ∷ (codes "pool", codes "default") ∷ [];
      caches = record { name = codes "git"; path = codes "cache/git" } ∷ [];
      inputs = record { path = codes "in/hello"; digest = hello_digest; size = 5 } ∷ [];
      outputs = codes "out/log" ∷ [];
      execution_timeout_secs = 3600;
      io_timeout_secs = 60;
      grace_period_secs = 45;
      idempotent = true;
    }

-- what `sha256sum` says of the text below
abbrev pub full_hash : List ℕ
full_hash =
    0xD6 ∷ 0x2E ∷ 0x16 ∷ 0x0F ∷ 0xAA ∷ 0x4E ∷ 0xFE ∷ 0x2D ∷ 0x66 ∷ 0x81 ∷ 0xC6 ∷
    0x2B ∷ 0x08 ∷ 0xB4 ∷ 0x99 ∷ 0x42 ∷ 0xFD ∷ 0xEE ∷ 0x0C ∷ 0xA6 ∷ 0x96 ∷ 0xFE ∷
    0xC4 ∷ 0x7C ∷ 0x9F ∷ 0x79 ∷ 0xF4 ∷ 0xA6 ∷ 0x73 ∷ 0x90 ∷ 0x39 ∷ 0x51 ∷ []

-- (the last word of the command is `ü`)
abbrev pub full_text : List ℕ
full_text =
    codes "{\"caches\":[[\"git\",\"cache/git\"]],\"command\":[\"say\",\"\\\"hi\\\"\",\"a\\\\b\",\"two\\nlines\",\"\\u0001\",\""
    ++ (0xC3 ∷ 0xBC ∷ [])
    ++ codes "\"],\"dimensions\":[[\"os\",\"Linux|Mac\"],[\"pool\",\"default\"]],\"env\":[[\"LANG\",\"C\"],[\"TZ\",\"UTC\"]],\"execution_timeout_secs\":3600,\"grace_period_secs\":45,\"idempotent\":true,\"inputs\":[[\"in/hello\",\"2cf24dba5fb0a30e26e83b2ac5b9e29e1b161e5c1fa7425e73043362938b9824\",5]],\"io_timeout_secs\":60,\"outputs\":[\"out/log\"]}"
