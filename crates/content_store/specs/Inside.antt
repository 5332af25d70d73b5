-- What a content store keeps, and what holds of it.
use Rattle.std.specs.Prelude.{◌≤◌, ◌*◌, vec_capacity}
use Rattle.content_store.specs.declared.content_store.ContentStore.TheInside.{Inside}
use Rattle.content_store.specs.Plain.{ContentStoreState}
use Rattle.content_store.specs.Slots.{state_in, AreLaidOut, AreThere}

abbrev pub kept_of : Inside → ContentStoreState
kept_of store = state_in store.region.units store.names store.bytes.items store.slots.items

-- the slots are laid out in the region, their bytes are there, and there is room for all that may come
pub record IsKept (store : Inside) : Type 0 where
  pub laid_out : AreLaidOut store.region store.slots.items
  pub there : AreThere store.bytes.items store.slots.items
  pub slots_room : store.names ≤ store.slots.room
  pub bytes_room : store.region.units * 64 ≤ vec_capacity store.bytes
