-- Puts one behind the other are one put.
use mathlib.Core.Path.{◌≡◌, refl, ap, sym, ◌∙◌}
use mathlib.Core.List.{List, [], ◌∷◌, ◌++◌, append-nil, append_assoc}
use Prim.Native.Nat.{ℕ, zero, suc, ◌+◌, ◌-◌, ◌≤◌, ◌<◌}
use native.Mathlib.Nat.{add-zero}
use native.Mathlib.Numerals.{add-one}
use native.Mathlib.Omega.{arith}
use lib.ListN.{length, get_or, set, take, drop, length-append, length-drop, take-append-drop}
use lib.Seq.{length-take-le, take_at, take-take, take-append-le, take-suc, take_all, drop_at, drop-drop, sets-eq}
use Rattle.verdict_record.specs.Record.{two}
use Rattle.trim_spec.specs.Encode.{framed, entry}
use Rattle.trim_encode.specs.Writing.{overwritten, Puts, Room, Begun, Finished}
use Rattle.trim_encode.specs.Pieces.{joined}
use Rattle.trim_encode.specs.declared.writer.Writer.{Writer}

pub none_put : (w : Writer) → Puts w w []
none_put w = record {
  same = refl;
  written = sym (append-nil (take w.at w.out.now));
  behind = let e : w.at + 0 ≡ w.at = add-zero w.at in rw e;
  end = omega arith;
  long = refl;
}

pub then_put : {u v w : Writer} {x y : List ℕ} → Puts u v x → Puts v w y → Puts u w (x ++ y)
then_put {u} {v} {w} {x} {y} p q = record {
  same = q.same ∙ p.same;
  written = q.written ∙ ap (λ l. l ++ y) p.written ∙ append_assoc (take u.at u.out.now) x y;
  behind =
      let e : u.at + length x + length y ≡ u.at + (length x + length y) = omega arith in
      let d : drop (v.at + length y) v.out.now ≡ drop (u.at + length x + length y) u.out.now =
      sym (drop-drop (length y) v.at v.out.now) ∙ ap (drop (length y)) p.behind ∙ drop-drop (length y) (u.at + length x) u.out.now in
      q.behind ∙ d ∙ (rw (length-append x y, e));
  end = let a = p.end in let b = q.end in rw (length-append x y) (omega arith);
  long = q.long ∙ p.long;
}

-- what there is room for has room in its parts
pub first_room : (u : Writer) (x y : List ℕ) → Room u (length (x ++ y)) → Room u (length x)
first_room u x y h = let a = length-append x y in omega arith

pub next_room : (u v : Writer) (x y : List ℕ) → Room u (length (x ++ y)) → Puts u v x → Room v (length y)
next_room u v x y h p = let a = length-append x y in let b = p.end in let c = p.long in omega arith

-- the same bytes under another name
pub as_put : {u v : Writer} {x y : List ℕ} → y ≡ x → Puts u v x → Puts u v y
as_put e p = rw e p

-- a put is an overwriting, and the other way round
pub put_over : {u v : Writer} {x : List ℕ} → Puts u v x → v.out.now ≡ overwritten u.out.now u.at x
unfolding overwritten
put_over {u} {v} {x} p =
    sym (take-append-drop v.at v.out.now) ∙ (rw (p.written, p.behind, append_assoc (take u.at u.out.now) x (drop (u.at + length x) u.out.now)))

over_is : (o : List ℕ) (p : ℕ) (x : List ℕ) → overwritten o p x ≡ take p o ++ (x ++ drop (p + length x) o)
unfolding overwritten
over_is o p x = refl

module _ (o : List ℕ) (p : ℕ) (x : List ℕ) (room : p + length x ≤ length o) where
  front : length (take p o ++ x) ≡ p + length x
  front = let h : p ≤ length o = omega arith in rw (length-append (take p o) x, length-take-le p o h)

  together : overwritten o p x ≡ (take p o ++ x) ++ drop (p + length x) o
  unfolding overwritten
  together = sym (append_assoc (take p o) x (drop (p + length x) o))

  over_take : take (p + length x) (overwritten o p x) ≡ take p o ++ x
  over_take = rw together (take_at (take p o ++ x) (drop (p + length x) o) (p + length x) front)

  over_drop : drop (p + length x) (overwritten o p x) ≡ drop (p + length x) o
  over_drop = rw together (drop_at (take p o ++ x) (drop (p + length x) o) (p + length x) front)

  over_length : length (overwritten o p x) ≡ length o
  unfolding overwritten
  over_length =
      let h : p ≤ length o = omega arith in
      rw (
        length-append (take p o) (x ++ drop (p + length x) o),
        length-append x (drop (p + length x) o),
        length-take-le p o h,
        length-drop (p + length x) o,
      ) (omega arith)

-- what is written in front of what was written behind it
module _ (o : List ℕ) (p : ℕ) (x y : List ℕ) (h : p + (length x + length y) ≤ length o) where
  pub over_before : overwritten (overwritten o (p + length x) y) p x ≡ overwritten o p (x ++ y)
  unfolding overwritten
  over_before =
      let q : p + length x ≤ length o = omega arith in
      let m : p ≤ p + length x = omega arith in
      let n : p ≤ length (take (p + length x) o) = rw (length-take-le (p + length x) o q) m in
      let e : p + length x + length y ≡ p + (length x + length y) = omega arith in
      rw (
        e,
        take-append-le p (take (p + length x) o) (y ++ drop (p + (length x + length y)) o) n,
        take-take p (p + length x) o m,
        drop_at (take (p + length x) o) (y ++ drop (p + (length x + length y)) o) (p + length x) (length-take-le (p + length x) o q),
        length-append x y,
        append_assoc x y (drop (p + (length x + length y)) o),
      )

pub over_put : (u v : Writer) (x : List ℕ) → Room u (length x) → v.out.ghost_name ≡ u.out.ghost_name
    → v.out.now ≡ overwritten u.out.now u.at x → v.at ≡ u.at + length x → Puts u v x
over_put u v x room same now end = record {
  same = same;
  written = rw (end, now) (over_take u.out.now u.at x room);
  behind = rw (end, now) (over_drop u.out.now u.at x room);
  end = end;
  long = rw now (over_length u.out.now u.at x room);
}

-- one byte
pub byte_over : (o : List ℕ) (p x : ℕ) → p + 1 ≤ length o → set o p x ≡ overwritten o p (x ∷ [])
unfolding overwritten
byte_over o p x h = sets-eq (x ∷ []) o p h ∙ append_assoc (take p o) (x ∷ []) (drop (p + 1) o)

-- what is written behind what was written in front of it
over_behind : (o : List ℕ) (p : ℕ) (x y : List ℕ) → p + (length x + length y) ≤ length o
    → overwritten (overwritten o p x) (p + length x) y ≡ overwritten o p (x ++ y)
over_behind o p x y h =
    let q : p + length x ≤ length o = omega arith in
    let e : p + length x + length y ≡ p + (length x + length y) = omega arith in
    let d : drop (p + length x + length y) (overwritten o p x) ≡ drop (p + length x + length y) o =
    sym (drop-drop (length y) (p + length x) (overwritten o p x)) ∙ ap (drop (length y)) (over_drop o p x q)
    ∙ drop-drop (length y) (p + length x) o in
    over_is (overwritten o p x) (p + length x) y
    ∙ (rw (
      over_take o p x q,
      d,
      e,
      over_is o p (x ++ y),
      length-append x y,
      append_assoc (take p o) x (y ++ drop (p + (length x + length y)) o),
      append_assoc x y (drop (p + (length x + length y)) o),
    ))

-- a copy, byte by byte
module _ (b o : List ℕ) (p : ℕ) where
  pub copy_none : o ≡ overwritten o p (take 0 b)
  unfolding overwritten
  copy_none = sym (rw (add-zero p) (take-append-drop p o))

  module _ (w : List ℕ) (i : ℕ) (e : w ≡ overwritten o p (take i b)) where
    pub copy_more : i < length b → p + length b ≤ length o → set w (p + i) (get_or b i 0) ≡ overwritten o p (take (i + 1) b)
    copy_more lt h =
        let le : i ≤ length b = omega arith in
        let l : length (take i b) ≡ i = length-take-le i b le in
        let m : p + (length (take i b) + 1) ≤ length o = rw l (omega arith) in
        let n : p + length (take i b) ≤ length o = rw l (omega arith) in
        let k : p + i + 1 ≤ length w = rw (e, over_length o p (take i b) n) (omega arith) in
        let g : overwritten (overwritten o p (take i b)) (p + i) (get_or b i 0 ∷ []) ≡ overwritten o p (take i b ++ (get_or b i 0 ∷ [])) =
        rw l at (over_behind o p (take i b) (get_or b i 0 ∷ []) m) in
        byte_over w (p + i) (get_or b i 0) k ∙ (rw (e, g, add-one i, take-suc b i 0 lt))

    pub copy_all : length b ≤ i → w ≡ overwritten o p b
    copy_all h = e ∙ ap (overwritten o p) (take_all i b h)

pub ruleset copying = (copy_none, copy_more, copy_all)

pub written_whole : (u v : Writer) (x : List ℕ) → u.at ≡ 0 → Puts u v x → v.out.now ≡ x ++ drop (length x) u.out.now
unfolding overwritten
written_whole u v x e p =
    let d : v.out.now ≡ overwritten u.out.now u.at x = put_over p in
    let q : overwritten u.out.now u.at x ≡ overwritten u.out.now 0 x = ap (λ (n : ℕ). overwritten u.out.now n x) e in
    let z : 0 + length x ≡ length x = omega arith in
    d ∙ q ∙ rw z

-- pieces, one behind the other
module _ (g : ℕ → List ℕ) where
  joined_suc : (i : ℕ) → joined g (i + 1) ≡ joined g i ++ g i
  unfolding joined
  joined_suc i = rw (add-one i)

  joined_grows : (i : ℕ) → length (joined g (i + 1)) ≡ length (joined g i) + length (g i)
  joined_grows i = rw (joined_suc i, length-append (joined g i) (g i))

  -- the first pieces with one more have no more bytes than all
  most : (i k : ℕ) → length (joined g i) + length (g i) ≤ length (joined g (i + 1 + k))
  most i zero = let a = joined_grows i in rw (add-zero (i + 1)) (omega arith)
  most i (suc k) =
      let q : i + 1 + suc k ≡ i + 1 + k + 1 = omega arith in
      let a = joined_grows (i + 1 + k) in
      let b = most i k in
      rw q (omega arith)

  joined_most : (i n : ℕ) → i < n → length (joined g i) + length (g i) ≤ length (joined g n)
  joined_most i n h = let q : i + 1 + (n - i - 1) ≡ n = omega arith in rw q at (most i (n - i - 1))

  pub join_none : (u : Writer) → Puts u u (joined g 0)
  unfolding joined
  join_none u = none_put u

  -- there is room for the next piece
  pub join_room : (u v : Writer) (i n : ℕ) → Puts u v (joined g i) → i < n → Room u (length (joined g n)) → Room v (length (g i))
  join_room u v i n p h room = let m = joined_most i n h in let e = p.end in let l = p.long in omega arith

  -- and with it one piece more is written
  pub join_more : (u v w : Writer) (i : ℕ) → Puts u v (joined g i) → Puts v w (g i) → Puts u w (joined g (i + 1))
  join_more u v w i p q = rw (joined_suc i) (then_put p q)

pub ruleset joining = (join_none, join_room, join_more)

-- a record: the place of its length and kind, its body behind it, then length and kind
module _ (u : Writer) (k : ℕ) (x : List ℕ) (room : Room u (length (framed (entry k x)))) where
  abbrev head : List ℕ
  head = two (2 + length x) ++ two k

  framed_is : framed (entry k x) ≡ head ++ x
  unfolding framed
  framed_is = refl

  framed_size : length (framed (entry k x)) ≡ 4 + length x
  framed_size = rw framed_is (omega arith)

  fits : u.at + (4 + length x) ≤ length u.out.now
  fits = rw framed_size at room

  pub begin_room : Room u 4
  begin_room = let h = fits in omega arith

  module _ (v : Writer) (b : Begun u v) where
    pub body_room : Room v (length x)
    body_room = let h = fits in rw (b.at, b.bytes) (omega arith)

    module _ (w : Writer) (start : ℕ) (e : start ≡ u.at) (p : Puts v w x) where
      pub finish_room : (start + 4 ≤ w.at) × (w.at ≤ length w.out.now)
      finish_room =
          let h = fits in let a = p.end in let c = b.at in
          let l : length w.out.now ≡ length u.out.now = p.long ∙ ap length b.bytes in
          (omega arith, omega arith)

      pub framed_put : (r : Writer) → Finished w r start k → Puts u r (framed (entry k x))
      framed_put r f =
          let h = fits in let a = p.end in let c = b.at in let g = f.at in
          let n : w.at - start - 2 ≡ 2 + length x = omega arith in
          let q : w.out.now ≡ overwritten u.out.now (u.at + 4) x = rw (b.bytes, b.at) at (put_over p) in
          let i : r.out.now ≡ overwritten (overwritten u.out.now (u.at + length head) x) u.at head = rw (n, e, q) at f.bytes in
          let d : r.out.now ≡ overwritten u.out.now u.at (framed (entry k x)) =
          i ∙ over_before u.out.now u.at head x h ∙ ap (overwritten u.out.now u.at) (sym framed_is) in
          over_put u r (framed (entry k x)) room (f.same ∙ p.same ∙ b.same) d (rw framed_size (omega arith))
