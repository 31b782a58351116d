-- What the code finds of a named line, by bytes, is what the new image says: the line is justified and says that the new point's
-- assertion follows from the old one.
use mathlib.Core.Path.{◌≡◌, refl, ap, ap₂, sym, ◌∙◌, subst}
use mathlib.Core.Bool.{Bool, true, false, ◌&&◌, true≢false}
use mathlib.Core.List.{List, []}
use Prim.Native.Nat.{ℕ, ◌≤◌, ◌<◌}
use native.Mathlib.Omega.{arith}
use lib.Dec.{eqb}
use lib.ListN.{get_or}
use borrow.Author.Tests.{eqb-true, eq-eqb}
use Rattle.semantics.specs.Base.{Within}
use Rattle.semantics.specs.Formula.{Sort, Assertion, encode, same_bytes}
use Rattle.logic.specs.Statement.{Statement, implies, is_pair}
use Rattle.semantics.proofs.Base.{bool_ext, is_true, holds_true}
use Rattle.limits.proofs.PassedTests.{and_true}
use Rattle.image_frames.specs.Records.{bodies}
use Rattle.formula.specs.Codes as Codes
use Rattle.formula.specs.Reader.{sort_of}
use Rattle.image_header.specs.declared.sizes.Sizes.{Sizes}
use Rattle.image_bodies.specs.declared.line.Form.{Form}
use Rattle.image_bodies.specs.declared.line.Form.TheVariants.{Triple, Implication, Inclusion, Pair, Unlisted}
use Rattle.image_bodies.specs.Line.{form_of}
use Rattle.image_bodies.specs.FormulaBody.{counts_of}
use Rattle.image_bodies.specs.LineBody.{sort_at, sorted_by}
use Rattle.formula_trees.proofs.ReadableBody.{reading_bytes}
use Rattle.logic_outline.specs.Lines.{marked}
use Rattle.logic_outline.proofs.Marks.{marked_justified, justified_marked}
use Rattle.logic_outline.specs.Verdict.{Image, line_code, Bears}
use Rattle.logic_outline.proofs.Accept.{code_bears, bears_code}
use Rattle.image_meaning.specs.Formulas.{formula}
use Rattle.image_meaning.specs.Program.{point_count, program_of, outline_number, outline_of}
use Rattle.image_meaning.specs.Certificate.{left, right, saying, line_body, certificate_of}
use Rattle.image_meaning.specs.Image.{image_of}
use Rattle.image_meaning.proofs.RecordsChecked.{Checks}
use Rattle.image_meaning.proofs.FormulaSorts.{formula_read}
use Rattle.image_meaning.proofs.WellFormedProgram.{outline_range, outline_fine}
use Rattle.image_meaning.proofs.LinesAdmitted.{sorted_passed, in_range}
use Rattle.image_meaning.proofs.Admitted.{checks_admitted}
use Rattle.rules_justified.specs.Marks.{is_marked}
use Rattle.rules_justified.specs.declared.marks.Marks.{Marks}
use Rattle.rules_justified.specs.Justify.{marks_to}
use Rattle.rules_justified.proofs.JustifiedAgree.{marks_are}
use Rattle.handover_spec.specs.LinesFound.{assertion_of, is_implication, sides_match, line_serves}
use Rattle.handover_spec.proofs.BytesAgree.{bytes_equal, equal_bytes}

-- an assertion's bytes are its record's body
body_bytes : (z : Sizes) (l : List (List ℕ)) → Checks z l → (k : ℕ) → 1 ≤ k → k ≤ z.formulas → sort_of (get_or l k []) ≡ Codes.assertion
    → get_or l k [] ≡ encode (formula l Sort.assertion k) []
unfolding formula
body_bytes z l c k low high e = reading_bytes (get_or l k []) (counts_of z) Codes.assertion (formula_read z l c k low high Codes.assertion e)

-- assertions of two images: the same exactly if their bodies are
module _ (z : Sizes) (l : List (List ℕ)) (y : Sizes) (m : List (List ℕ)) (i j : ℕ) where
  same_formula : get_or l i [] ≡ get_or m j [] → formula l Sort.assertion i ≡ formula m Sort.assertion j
  unfolding formula
  same_formula e = rw e

  same_body : Checks z l → 1 ≤ i → i ≤ z.formulas → sort_of (get_or l i []) ≡ Codes.assertion → Checks y m → 1 ≤ j → j ≤ y.formulas
      → sort_of (get_or m j []) ≡ Codes.assertion
      → formula l Sort.assertion i ≡ formula m Sort.assertion j → get_or l i [] ≡ get_or m j []
  same_body c a b e d p q f g = body_bytes z l c i a b e ∙ ap (λ (x : Assertion). encode x []) g ∙ sym (body_bytes y m d j p q f)

-- an implication is no triple
not_taken : (t k : ℕ) (o : Bool) (a b p q : Assertion)
    → implies p q ≡ elim o as (λ (x : Bool). Statement) [ true ↦ Statement.pair t k a b | false ↦ Statement.triple t k a b ] → ⊥
not_taken t k true a b p q e = let x : ◌≡◌ {A = ℕ} 0 1 = cc in omega arith
not_taken t k false a b p q e = let x : ◌≡◌ {A = ℕ} 0 1 = cc in omega arith

module _ (y : Sizes) (l : List (List ℕ)) (b : List ℕ) (p q : Assertion) where
  -- what a line of another form says is no implication
  pub said_so : (f : Form) → implies p q ≡ saying y l f b
      → (f ≡ Implication) × (p ≡ formula l Sort.assertion (left b)) × (q ≡ formula l Sort.assertion (right b))
  unfolding saying
  said_so Triple e = let x : ◌≡◌ {A = ℕ} 0 1 = cc in absurd (omega arith)
  said_so Implication e = (refl, cc, cc)
  said_so Inclusion e = let x : ◌≡◌ {A = ℕ} 0 1 = cc in absurd (omega arith)
  said_so Pair e = absurd (not_taken (get_or b 1 0) (get_or b 2 0) (is_pair ((program_of y l).code (get_or b 1 0) (get_or b 2 0)))
      (formula l Sort.assertion (left b)) (formula l Sort.assertion (right b)) p q e)
  said_so Unlisted e = let x : ◌≡◌ {A = ℕ} 0 1 = cc in absurd (omega arith)

is_form : (f : Form) → is_implication f ≡ true → f ≡ Implication
is_form Triple e = absurd (true≢false (sym e))
is_form Implication e = refl
is_form Inclusion e = absurd (true≢false (sym e))
is_form Pair e = absurd (true≢false (sym e))
is_form Unlisted e = absurd (true≢false (sym e))

module _ (old : List ℕ) (z : Sizes) (c : Checks z (bodies old)) (new : List ℕ) (y : Sizes) (d : Checks y (bodies new)) where
  abbrev l : List (List ℕ)
  l = bodies old

  abbrev m : List (List ℕ)
  m = bodies new

  abbrev E : Image
  E = image_of y m

  abbrev M : Marks
  M = marks_to new y y.lines

  module _ (t k p n : ℕ) (w : Within z.threads t) (b : k < point_count z l t) (v : Within y.threads t) (a : p < point_count y m t)
      (h : Within y.lines n) where
    abbrev body : List ℕ
    body = line_body y m n

    abbrev wanted : Statement
    wanted = implies (outline_of z l t k) (outline_of y m t p)

    abbrev o : ℕ
    o = outline_number z l t k

    abbrev i : ℕ
    i = outline_number y m t p

    abbrev form : Form
    form = form_of (get_or body 0 0)

    found_bears : line_serves new y M n (assertion_of old z t k) (assertion_of new y t p) ≡ true → Bears E wanted n
    unfolding line_serves sides_match assertion_of saying
    found_bears e =
        let g = and_true (is_marked M n) (is_implication form &&
        (same_bytes (get_or l o []) (get_or m (left body) []) && same_bytes (get_or m i []) (get_or m (right body) []))) e in
        let f = and_true (is_implication form) (same_bytes (get_or l o []) (get_or m (left body) []) && same_bytes (get_or m i [])
        (get_or m (right body) [])) g.1 in
        let q = and_true (same_bytes (get_or l o []) (get_or m (left body) [])) (same_bytes (get_or m i []) (get_or m (right body) [])) f.1 in
        record {
          there = omega (arith, h.0);
          says = ap₂ implies (same_formula z l y m o (left body) (bytes_equal (get_or l o []) (get_or m (left body) []) q.0))
              (same_formula y m y m i (right body) (bytes_equal (get_or m i []) (get_or m (right body) []) q.1))
              ∙ ap (λ (x : Form). saying y m x body) (sym (is_form form f.0));
          just = marked_justified (program_of y m) (certificate_of y m) n (is_true (sym (marks_are new y d n) ∙ g.0));
        }

    -- the formulas of an implication are assertions that are there
    sides_fine : form ≡ Implication → (sort_of (get_or m (left body) []) ≡ Codes.assertion) ×
        (sort_of (get_or m (right body) []) ≡ Codes.assertion)
    unfolding sorted_by sort_at
    sides_fine e =
        let r = sorted_passed y m d n h.0 h.1 in (
          eqb-true (sort_of (get_or m (left body) [])) Codes.assertion (subst (λ (x : Form). sorted_by m x (left body) ≡ true) e r.0),
          eqb-true (sort_of (get_or m (right body) [])) Codes.assertion (subst (λ (x : Form). sorted_by m x (right body) ≡ true) e r.1),
        )

    bears_found : Bears E wanted n → line_serves new y M n (assertion_of old z t k) (assertion_of new y t p) ≡ true
    unfolding line_serves sides_match assertion_of
    bears_found g =
        let s = said_so y m body (outline_of z l t k) (outline_of y m t p) form g.says in
        let r = in_range y m d n h.0 h.1 in
        let u = sides_fine s.0 in
        let x = outline_range z l c t k w b in
        let q = outline_range y m d t p v a in
        let first = same_body z l y m o (left body) c x.0 x.1 (outline_fine z l c t k w b).0 d r.0.0 r.0.1 u.0 s.1 in
        let second = same_body y m y m i (right body) d q.0 q.1 (outline_fine y m d t p v a).0 d r.1.0 r.1.1 u.1 s.2 in
        let just = justified_marked (program_of y m) (certificate_of y m) (record { lower = (checks_admitted y m d).lower }) n g.just in
        ap₂ ◌&&◌ (marks_are new y d n ∙ holds_true (marked (program_of y m) (certificate_of y m) y.lines n) just)
        (ap₂ ◌&&◌ (ap is_implication s.0) (ap₂ ◌&&◌ (equal_bytes (get_or l o []) (get_or m (left body) []) first)
        (equal_bytes (get_or m i []) (get_or m (right body) []) second)))

    -- by bytes as by what is said
    pub found_served : line_serves new y M n (assertion_of old z t k) (assertion_of new y t p) ≡ eqb (line_code E wanted n) 0
    found_served =
        bool_ext (line_serves new y M n (assertion_of old z t k) (assertion_of new y t p)) (eqb (line_code E wanted n) 0)
        (λ g. is_true (eq-eqb (line_code E wanted n) 0
        (bears_code E (checks_admitted y m d) wanted n
        (found_bears (holds_true (line_serves new y M n (assertion_of old z t k) (assertion_of new y t p)) g)))))
        (λ g. is_true (bears_found (code_bears E wanted n (eqb-true (line_code E wanted n) 0 (holds_true (eqb (line_code E wanted n) 0) g)))))
