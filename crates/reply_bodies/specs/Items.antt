-- The items of lists.
use Rattle.std.specs.Prelude.{ℕ, List, codes}
use Rattle.hex.specs.Hex.{encode_lower}
use Rattle.serde_json.specs.Data.{Data, string, object, member, no_members}
use Rattle.json_values.specs.Values.{whole, list_data}
use Rattle.task_props.specs.declared.cache.Cache.{Cache}
use Rattle.task_props.specs.declared.file.File.{File}

-- a key and its value
abbrev pub pair_data : List ℕ × List ℕ → Data
pair_data pair = object (member (codes "key") (string pair.0) (member (codes "value") (string pair.1) no_members))

-- a key of a bot and its values
abbrev pub bot_pair_data : List ℕ × List (List ℕ) → Data
bot_pair_data pair = object (member (codes "key") (string pair.0) (member (codes "value") (list_data string pair.1) no_members))

abbrev pub cache_data : Cache → Data
cache_data cache = object (member (codes "name") (string cache.name) (member (codes "path") (string cache.path) no_members))

-- a file, by its path, its digest and its size
abbrev pub file_data : File → Data
file_data file =
    object
    (member (codes "digest") (string (encode_lower file.digest))
    (member (codes "path") (string file.path)
    (member (codes "size") (whole file.size) no_members)))

-- a blob, by its digest and its size
abbrev pub blob_data : List ℕ × ℕ → Data
blob_data blob = object (member (codes "digest") (string (encode_lower blob.0)) (member (codes "size") (whole blob.1) no_members))
