-- A uuid of a creator is told by the two as by their pair.
use Rattle.std.proofs.Common.{List, ap, Option, Some, None}
use Rattle.std.specs.Prelude.{IfSome}
use Rattle.pool_index.specs.declared.uuid_link.UuidLink.{UuidLink}
use Rattle.pool_index.specs.SortedLinks.{Key, HasNoKey}
use Rattle.pool_index.specs.Uuids.{key_of, HasNone}

pub none_found : (links : List UuidLink) (key : Key) → HasNoKey key_of links key → HasNone links key
none_found links key h = record { none = λ link among creator uuid. h.none link among (λ i. (creator i, uuid i)) }

no_key : (links : List UuidLink) (key : Key) → HasNone links key → HasNoKey key_of links key
no_key links key h = record { none = λ link among is. h.none link among (ap (λ (k : Key). k.0) is) (ap (λ (k : Key). k.1) is) }

pub is_fresh : (ready : Option UuidLink) (links : List UuidLink) → IfSome ready (λ link. HasNone links (key_of link)) → IfSome ready (λ link. HasNoKey key_of links (key_of link))
is_fresh None links h = h
is_fresh (Some link) links h = no_key links (key_of link) h
