-- A record is written with its frame, and records one after the other.
use mathlib.Core.Path.{◌≡◌}
use mathlib.Core.Bool.{Bool, true, false}
use mathlib.Core.List.{List, [], map}
use Prim.Native.Nat.{ℕ, ◌+◌, ◌<◌}
use lib.ListN.{length, get_or}
use Rattle.limits.specs.Numbers.{numbers}
use Rattle.trim_spec.specs.Encode.{framed, entry, number_bytes}
use Rattle.trim_encode.specs.Writing.{Puts, Room}
use Rattle.trim_encode.specs.declared.writer.Writer.{Writer}
use Rattle.trim_encode.specs.Pieces.{joined}
use Rattle.trim_encode.specs.Records.{renewed_body, record_bytes, record_piece, live_piece, list_bytes}
use Rattle.trim_encode.specs.Renumbered.{renewed}
use Rattle.trim_encode.proofs.Writes.{none_put, join_room, join_more}

-- a record with the body that was looked up
module _ (f g : List ℕ) (l : List (List ℕ)) (k n : ℕ) (b : List ℕ) (e : b ≡ get_or l n []) where
  record_is : record_bytes f g l k n ≡ framed (entry k (renewed_body f g k b))
  unfolding record_bytes
  record_is = rw e

  pub record_room : (w : Writer) → Room w (length (record_bytes f g l k n)) → Room w (length (framed (entry k (renewed_body f g k b))))
  record_room w h = rw record_is at h

  pub record_put : (w v : Writer) → Puts w v (framed (entry k (renewed_body f g k b))) → Puts w v (record_bytes f g l k n)
  record_put w v p = rw record_is p

module _ (t : List ℕ) (c : ℕ) (l : List (List ℕ)) (k n : ℕ) (b : List ℕ) (e : b ≡ get_or l n []) where
  list_is : list_bytes t l k n c ≡ framed (entry k (number_bytes (map (renewed t) (numbers c b))))
  unfolding list_bytes
  list_is = rw e

  pub list_room : (w : Writer) → Room w (length (list_bytes t l k n c))
      → Room w (length (framed (entry k (number_bytes (map (renewed t) (numbers c b))))))
  list_room w h = rw list_is at h

  pub list_put : (w v : Writer) → Puts w v (framed (entry k (number_bytes (map (renewed t) (numbers c b))))) → Puts w v (list_bytes t l k n c)
  list_put w v p = rw list_is p

-- records, one after the other: all, or those with a mark
module _ (f g : List ℕ) (l : List (List ℕ)) (k n : ℕ) (w v : Writer) (i : ℕ) where
  pub records_room : (c : ℕ) → Puts w v (joined (record_piece f g l k n) i) → i < c → Room w (length (joined (record_piece f g l k n) c))
      → Room v (length (record_bytes f g l k (n + i)))
  unfolding record_piece
  records_room c = join_room (record_piece f g l k n) w v i c

  pub records_more : (u : Writer) → Puts w v (joined (record_piece f g l k n) i) → Puts v u (record_bytes f g l k (n + i))
      → Puts w u (joined (record_piece f g l k n) (i + 1))
  unfolding record_piece
  records_more u = join_more (record_piece f g l k n) w v u i

  module _ (m : List Bool) (b : Bool) (eb : b ≡ get_or m (i + 1) false) (p : Puts w v (joined (live_piece f g l m k n) i)) where
    module _ (is : b ≡ true) where
      stays : live_piece f g l m k n i ≡ record_bytes f g l k (n + i)
      unfolding live_piece
      stays = rw (← eb, is)

      pub live_room : (c : ℕ) → i < c → Room w (length (joined (live_piece f g l m k n) c)) → Room v (length (record_bytes f g l k (n + i)))
      live_room c h room = rw stays at (join_room (live_piece f g l m k n) w v i c p h room)

      pub live_more : (u : Writer) → Puts v u (record_bytes f g l k (n + i)) → Puts w u (joined (live_piece f g l m k n) (i + 1))
      live_more u q = join_more (live_piece f g l m k n) w v u i p (rw stays q)

    module _ (off : b ≡ false) where
      goes : live_piece f g l m k n i ≡ []
      unfolding live_piece
      goes = rw (← eb, off)

      pub live_less : Puts w v (joined (live_piece f g l m k n) (i + 1))
      live_less = join_more (live_piece f g l m k n) w v v i p (rw goes (none_put v))

pub ruleset writing_records = (records_room, records_more)

pub ruleset writing_live = (live_room, live_more, live_less)
