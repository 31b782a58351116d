-- The bodies first to last, behind the frames.
use Prim.Native.Nat.{ℕ, zero, suc, ◌+◌, ◌-◌, ◌≤◌, ◌<◌}
use mathlib.Core.Path.{◌≡◌, sym, ◌∙◌}
use mathlib.Core.List.{List, []}
use native.Mathlib.Numerals.{sub-one}
use native.Mathlib.Nat.{add-zero}
use native.Mathlib.Omega.{arith}
use lib.ListN.{get_or, drop}
use lib.Seq.{get_or-drop, drop-drop}
use Rattle.std.specs.Prelude.{Ok, Err}
use Rattle.image_frames.specs.Fault.{Checked, passed}
use Rattle.image_frames.specs.Frames.{Framing, refused, whole_image}
use Rattle.image_frames.specs.Records.{bodies}
use Rattle.image_frames.specs.declared.fault.Fault.{Fault}
use Rattle.image_frames.specs.declared.fault.Refusal.{Refusal}
use Rattle.image_frames.specs.declared.walk.RecordCounts.{RecordCounts}
use Rattle.image_header.specs.declared.sizes.Sizes.{Sizes}
use Rattle.image_header.specs.Header.{header}
use Rattle.image_bodies.specs.FormulaBody as Formulas
use Rattle.image_bodies.specs.ThreadBody as Threads
use Rattle.image_bodies.specs.Claim as Claims
use Rattle.image_bodies.specs.ListBody as Lists
use Rattle.image_bodies.specs.LineBody as Lines
use Rattle.image.specs.declared.body.Place.{Place}
use Rattle.image.specs.declared.body.Place.TheVariants.{Header, Formula, Thread, Outline, Line, Obligations, Claim}
use Rattle.image.specs.Body.{place_of, check}
use Rattle.image.specs.Decode.{Decoded, record_count, sizes_of, unless_faulty, first_fault, decoded}

pub sizes_are : (h : List ℕ) (t w r v f n m : ℕ) → t ≡ get_or h 0 0 → w ≡ get_or h 1 0 → r ≡ get_or h 2 0 → v ≡ get_or h 3 0
    → record { threads = t; words = w; registers = r; range = v; formulas = f; lines = n; claims = m } ≡ sizes_of h f n m
unfolding sizes_of
sizes_are h t w r v f n m et ew er ev = rw (et, ew, er, ev)

fault_step : (t : ℕ) (z : Sizes) (l : List (List ℕ)) (i n : ℕ) (m : List (List ℕ)) → 0 < n
    → first_fault t z l i n m ≡ unless_faulty (check t z l (place_of z i) (get_or m 0 [])) i (first_fault t z l (i + 1) (n - 1) (drop 1 m))
unfolding first_fault
fault_step t z l i zero m h = absurd (omega arith)
fault_step t z l i (suc n) m h = rw (sub-one (suc n))

pub bodies_start : (t : ℕ) (z : Sizes) (l : List (List ℕ)) (n : ℕ) → n ≡ record_count z
    → first_fault t z l 1 (record_count z) l ≡ first_fault t z l (0 + 1) (n - 0) (drop 0 l)
bodies_start t z l n e = let q : n - 0 ≡ record_count z = omega arith in rw q

-- i bodies have passed, of n
module _ (t : ℕ) (z : Sizes) (l : List (List ℕ)) (i n : ℕ) (b : List ℕ) (c : Checked) (g : Decoded) (lt : i < n)
    (e : g ≡ first_fault t z l (i + 1) (n - i) (drop i l)) (eb : b ≡ get_or l i []) (ec : c ≡ check t z l (place_of z (i + 1)) b) where
  turn : g ≡ unless_faulty c (i + 1) (first_fault t z l (i + 1 + 1) (n - i - 1) (drop 1 (drop i l)))
  turn =
      let q : 0 < n - i = omega arith in
      let h : get_or (drop i l) 0 [] ≡ b = get_or-drop i l 0 [] ∙ (rw (add-zero i) (sym eb)) in
      rw (e, fault_step t z l (i + 1) (n - i) (drop i l) q, h, ← ec)

  pub bodies_stop : (f : Fault) → c ≡ Err f → refused f (i + 1) ≡ g
  bodies_stop f q = rw (turn, q)

  pub bodies_more : c ≡ passed → g ≡ first_fault t z l (i + 1 + 1) (n - (i + 1)) (drop (i + 1) l)
  bodies_more q = let a : n - i - 1 ≡ n - (i + 1) = omega arith in turn ∙ (rw (q, drop-drop 1 i l, a))

pub bodies_all : (t : ℕ) (z : Sizes) (l m : List (List ℕ)) (i n : ℕ) (g : Decoded) → n ≤ i → g ≡ first_fault t z l (i + 1) (n - i) m
    → Ok z ≡ g
unfolding first_fault
bodies_all t z l m i n g h e = let q : n - i ≡ 0 = omega arith in rw (e, q)

pub ruleset check_bodies_branches = (bodies_start, bodies_stop, bodies_more, bodies_all)

-- one body

module _ (t : ℕ) (z : Sizes) (l : List (List ℕ)) (b : List ℕ) (p q : Place) (r : Checked) (e : p ≡ q) where
  pub is_header : p ≡ Header → r ≡ header t b → r ≡ check t z l q b
  unfolding check
  is_header h d = rw (← e, h) d

  pub is_formula : p ≡ Formula → r ≡ Formulas.formula z b → r ≡ check t z l q b
  unfolding check
  is_formula h d = rw (← e, h) d

  pub is-thread : (u : ℕ) → p ≡ Thread u → r ≡ Threads.thread z l u b → r ≡ check t z l q b
  unfolding check
  is-thread u h d = rw (← e, h) d

  pub is_outline : p ≡ Outline → r ≡ Lists.outline z l b → r ≡ check t z l q b
  unfolding check
  is_outline h d = rw (← e, h) d

  pub is_line : (k : ℕ) → p ≡ Line k → r ≡ Lines.line z l k b → r ≡ check t z l q b
  unfolding check
  is_line k h d = rw (← e, h) d

  pub is_obligations : p ≡ Obligations → r ≡ Lists.obligations z l b → r ≡ check t z l q b
  unfolding check
  is_obligations h d = rw (← e, h) d

  pub is_claim : p ≡ Claim → r ≡ Claims.claim z l b → r ≡ check t z l q b
  unfolding check
  is_claim h d = rw (← e, h) d

pub ruleset check_body_branches = (is_header, is_formula, is-thread, is_outline, is_line, is_obligations, is_claim)

-- frames, then bodies

pub frames_refused : (s : List ℕ) (g : Framing) (r : Refusal) → g ≡ whole_image s → g ≡ Err r → Err r ≡ decoded s
unfolding decoded
frames_refused s g r e q = rw (← e, q)

pub frames_sound : (s : List ℕ) (g : Framing) (n : RecordCounts) (h : List ℕ) (z : Sizes) (d : Decoded) → g ≡ whole_image s
    → g ≡ Ok n → h ≡ get_or (bodies s) 0 [] → z ≡ sizes_of h n.formulas n.lines n.claims
    → d ≡ first_fault n.threads z (bodies s) 1 (record_count z) (bodies s) → d ≡ decoded s
unfolding decoded
frames_sound s g n h z d e q eh ez ed = rw (← e, q, ← eh, ← ez) ed

pub ruleset decode_branches = (sizes_are, frames_refused, frames_sound)
