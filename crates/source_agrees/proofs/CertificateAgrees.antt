-- The lines, the named lines and the claims of a sound image are those of its source.
use mathlib.Core.Path.{◌≡◌, refl, ap, sym, ◌∙◌, subst}
use mathlib.Core.Bool.{Bool, true, false, cond, true≢false}
use mathlib.Core.List.{List, [], map}
use Prim.Native.Nat.{ℕ, zero, suc, ◌+◌, ◌≤◌, ◌<◌}
use native.Mathlib.Omega.{arith}
use lib.Dec.{eqb, ltb, leb}
use lib.ListN.{length, get_or, drop, length-map}
use lib.Seq.{get_or-drop, get_or-take}
use borrow.Author.Tests.{eqb-true}
use Rattle.semantics.specs.Formula.{Sort}
use Rattle.logic.specs.Statement.{Statement, inside, implies, triple, taking}
use Rattle.logic.specs.RuleNumbers.{rule_of}
use Rattle.limits.specs.Numbers.{nth}
use Rattle.formula.specs.Codes as Codes
use Rattle.formula.specs.Reader.{sort_of}
use Rattle.formula.specs.Tree.{Tree}
use Rattle.formula_trees.specs.ToTree.{of_tree}
use Rattle.formula_trees.specs.Place as Place
use Rattle.image_header.specs.declared.sizes.Sizes.{Sizes}
use Rattle.image_bodies.specs.FormulaUse.{tree_of}
use Rattle.image_bodies.specs.declared.line.Form.{Form}
use Rattle.image_bodies.specs.declared.line.Form.TheVariants.{Triple, Implication, Inclusion, Pair, Unlisted}
use Rattle.image_bodies.specs.Line.{form_of, placed}
use Rattle.image_bodies.specs.LineBody.{sort_at, sorted_by}
use Rattle.image.specs.Decode.{sizes_of, decoded}
use Rattle.image_meaning.specs.Formulas.{formula}
use Rattle.image_meaning.specs.Certificate.{left, right, saying, line_of, line_body}
use Rattle.image_meaning.specs.Image.{claim_body, claim_place, named_line, image_of}
use Rattle.image_meaning.proofs.LinesAdmitted.{numbers_passed, sorted_passed, in_range, triple_there}
use Rattle.image_meaning.proofs.ObligationCount.{count_is}
use Rattle.image_meaning.proofs.WellFormedProgram.{outlined_fine}
use Rattle.trim_spec.specs.Canonical.{Bytes}
use Rattle.trim_spec.specs.Parse.{document_of, part, line_record, claim_record, sizes}
use Rattle.source.specs.Source.{Listed, Line, Claimed, Source}
use Rattle.source.specs.Meaning.{assertion, program_of}
use Rattle.source.specs.Certificate.{as_interval, no_line, interval, hoare, statement, line_at}
use Rattle.source.specs.Means.{no_claim, Means}
use Rattle.source_agrees.specs.SourceOf.{listed_of, claim_of, source_of}
use Rattle.source_agrees.specs.SourceOf as SourceOf
use Rattle.source_agrees.proofs.ImageWritten.{doc}
use Rattle.source_agrees.proofs.FormulasMean.{assertion_same}
use Rattle.source_agrees.proofs.MeaningAgrees.{l, D, t, k, threads_are, listed_is, get_d_map, alike, outlines_alike}
use Rattle.std.specs.Prelude.{Ok}

-- a part of a list, member by member
part_at : (i n : ℕ) (m : List (List ℕ)) (j : ℕ) → j < n → get_or (part i n m) j [] ≡ get_or m (i + j) []
part_at i n m j b = get_or-take n (drop i m) j [] b ∙ get_or-drop i m j []

as-interval : (p : ℕ) (x : Tree) → p ≡ 2 → as_interval (Place.sort_at p) (of_tree (Place.sort_at p) x) ≡ of_tree Sort.interval x
unfolding as_interval
as-interval p x e = subst (λ (q : ℕ). as_interval (Place.sort_at q) (of_tree (Place.sort_at q) x) ≡ of_tree Sort.interval x) (sym e) refl

module _ (s : List ℕ) (z : Sizes) (bs : Bytes s) (ok : decoded s ≡ Ok z) where
  abbrev m : List (List ℕ)
  m = l s z bs ok

  abbrev src : Source
  src = t s z bs ok

  lines_counted : length (D s z bs ok).lines ≡ z.lines
  unfolding sizes sizes_of
  lines_counted = ap (λ (y : Sizes). y.lines) (doc s z bs ok).describes.size

  pub lines_are : z.lines ≡ length src.lines
  unfolding source_of
  lines_are = sym (length-map (D s z bs ok).lines SourceOf.line_of ∙ lines_counted)

  claims_counted : length (D s z bs ok).claims ≡ z.claims
  unfolding sizes sizes_of
  claims_counted = ap (λ (y : Sizes). y.claims) (doc s z bs ok).describes.size

  pub claims_are : z.claims ≡ length src.claims
  unfolding source_of
  claims_are = sym (length-map (D s z bs ok).claims claim_of ∙ claims_counted)

  pub formulas_counted : z.formulas ≡ length src.formulas
  unfolding sizes sizes_of source_of
  formulas_counted =
      sym (length-map (D s z bs ok).formulas listed_of ∙ ap (λ (y : Sizes). y.formulas) (doc s z bs ok).describes.size)

  -- a line, by its number

  line_from : (n : ℕ) → n < z.lines → nth src.lines (suc n) no_line ≡ SourceOf.line_of (line_record (line_body z m (suc n)))
  unfolding source_of document_of nth line_body
  line_from n b =
      let a : ℕ = z.formulas + z.threads + 2 in
      let q : a + n ≡ z.formulas + z.threads + 1 + suc n = omega arith in
      let c = lines_counted in
      let d = length-map (part a z.lines m) line_record in
      get_d_map SourceOf.line_of (map line_record (part a z.lines m)) n no_line (line_record []) (omega (arith, c))
      ∙ ap SourceOf.line_of (get_d_map line_record (part a z.lines m) n (line_record []) [] (omega (arith, c, d))
      ∙ ap line_record (part_at a z.lines m n b ∙ ap (λ (i : ℕ). get_or m i []) q))

  module _ (n : ℕ) (low : 1 ≤ n) (high : n ≤ z.lines) where
    abbrev b : List ℕ
    b = line_body z m n

    abbrev line : Line
    line = SourceOf.line_of (line_record b)

    abbrev Sorts : Form → Type 0
    Sorts f = (placed z m f b ≡ true) × (sorted_by m f (left b) ≡ true) × (sorted_by m f (right b) ≡ true)

    left_assertion : sort_of (get_or m (left b) []) ≡ Codes.assertion → assertion src (left b) ≡ formula m Sort.assertion (left b)
    left_assertion e =
        let r = (in_range z m (k s z bs ok) n low high).0 in
        assertion_same z m (k s z bs ok) src (listed_is s z bs ok) (left b) r.0 r.1 e

    right_assertion : sort_of (get_or m (right b) []) ≡ Codes.assertion → assertion src (right b) ≡ formula m Sort.assertion (right b)
    right_assertion e =
        let r = (in_range z m (k s z bs ok) n low high).1 in
        assertion_same z m (k s z bs ok) src (listed_is s z bs ok) (right b) r.0 r.1 e

    interval_same : (j : ℕ) → 1 ≤ j → j ≤ z.formulas → sort_of (get_or m j []) ≡ Codes.interval → interval src j ≡ formula m Sort.interval j
    unfolding interval formula listed_of
    interval_same j a c e =
        ap (λ (f : Listed). as_interval f.sort f.formula) (listed_is s z bs ok j a c)
        ∙ as-interval (sort_of (get_or m j [])) (tree_of (get_or m j [])) e

    triple_same : Sorts Triple → saying z m Triple b ≡ hoare src line
    unfolding saying hoare line_record sorted_by
    triple_same h =
        let e = left_assertion (outlined_fine z m (k s z bs ok) (left b) h.1).0 in
        let d = right_assertion (outlined_fine z m (k s z bs ok) (right b) h.2).0 in
        λ i. triple (get_or b 1 0) (get_or b 2 0) (sym e i) (sym d i)

    implication_same : Sorts Implication → saying z m Implication b ≡ implies (assertion src (left b)) (assertion src (right b))
    unfolding saying sorted_by sort_at
    implication_same h =
        let e = left_assertion (eqb-true (sort_of (get_or m (left b) [])) Codes.assertion h.1) in
        let d = right_assertion (eqb-true (sort_of (get_or m (right b) [])) Codes.assertion h.2) in
        λ i. implies (sym e i) (sym d i)

    inclusion_same : Sorts Inclusion → saying z m Inclusion b ≡ inside (interval src (left b)) (interval src (right b))
    unfolding saying sorted_by sort_at
    inclusion_same h =
        let r = in_range z m (k s z bs ok) n low high in
        let e = interval_same (left b) r.0.0 r.0.1 (eqb-true (sort_of (get_or m (left b) [])) Codes.interval h.1) in
        let d = interval_same (right b) r.1.0 r.1.1 (eqb-true (sort_of (get_or m (right b) [])) Codes.interval h.2) in
        λ i. inside (sym e i) (sym d i)

    pair_same : Sorts Pair → saying z m Pair b
        ≡ taking (get_or b 1 0) (get_or b 2 0) ((program_of src).code (get_or b 1 0) (get_or b 2 0)) (assertion src (left b))
        (assertion src (right b))
    unfolding saying sorted_by placed
    pair_same h =
        let e = left_assertion (outlined_fine z m (k s z bs ok) (left b) h.1).0 in
        let d = right_assertion (outlined_fine z m (k s z bs ok) (right b) h.2).0 in
        let w = triple_there z m (k s z bs ok) n low high h.0 in
        let c = (alike s z bs ok).code (get_or b 1 0) (get_or b 2 0) w.0 w.1 in
        λ i. taking (get_or b 1 0) (get_or b 2 0) (c i) (sym e i) (sym d i)

    unlisted_not : {A : Type 0} → Sorts Unlisted → A
    unfolding placed
    unlisted_not h = absurd (true≢false (sym h.0))

    -- the form by the tests of the rule's number, in their order
    abbrev form_by : Bool → Bool → Bool → Bool → Bool → Bool → Bool → Bool → Form
    form_by a1 a2 a3 a4 a5 a6 a7 a8 =
        cond a1 Unlisted (cond a2 Triple (cond a3 Unlisted (cond a4 Implication (cond a5 Unlisted (cond a6 Inclusion
        (cond a7 Triple (cond a8 Pair Unlisted)))))))

    abbrev stated : Bool → Bool → Bool → Bool → Statement
    stated a2 a4 a6 a7 =
        cond a2 (hoare src line) (cond a4 (implies (assertion src (left b)) (assertion src (right b)))
        (cond a6 (inside (interval src (left b)) (interval src (right b)))
        (cond a7 (hoare src line)
        (taking (get_or b 1 0) (get_or b 2 0) ((program_of src).code (get_or b 1 0) (get_or b 2 0)) (assertion src (left b))
        (assertion src (right b))))))

    by_tests : (a1 a2 a3 a4 a5 a6 a7 a8 : Bool) → Sorts (form_by a1 a2 a3 a4 a5 a6 a7 a8)
        → saying z m (form_by a1 a2 a3 a4 a5 a6 a7 a8) b ≡ stated a2 a4 a6 a7
    by_tests true a2 a3 a4 a5 a6 a7 a8 h = unlisted_not h
    by_tests false true a3 a4 a5 a6 a7 a8 h = triple_same h
    by_tests false false true a4 a5 a6 a7 a8 h = unlisted_not h
    by_tests false false false true a5 a6 a7 a8 h = implication_same h
    by_tests false false false false true a6 a7 a8 h = unlisted_not h
    by_tests false false false false false true a7 a8 h = inclusion_same h
    by_tests false false false false false false true a8 h = triple_same h
    by_tests false false false false false false false true h = pair_same h
    by_tests false false false false false false false false h = unlisted_not h

    says_same : saying z m (form_of (get_or b 0 0)) b ≡ statement src line
    unfolding form_of statement line_record
    says_same =
        let r : ℕ = get_or b 0 0 in
        let p = sorted_passed z m (k s z bs ok) n low high in
        by_tests (ltb r 1) (leb r 16) (ltb r 20) (leb r 27) (ltb r 30) (leb r 46) (leb r 49) (eqb r 50)
        ((numbers_passed z m (k s z bs ok) n low high).0, p.0, p.1)

  line_same : (n : ℕ) → n < z.lines → line_of z m (line_body z m (suc n)) ≡ line_at src (suc n)
  unfolding line_at line_record
  line_same n c =
      let x = line_from n c in
      (λ i. record {
        rule = rule_of (get_or (line_body z m (suc n)) 0 0);
        says = says_same (suc n) (omega arith) (omega arith) i;
        premises = (SourceOf.line_of (line_record (line_body z m (suc n)))).premises;
      })
      ∙ ap (λ (y : Line). record { rule = rule_of y.rule; says = statement src y; premises = y.premises }) (sym x)

  -- claims

  claim_from : (i : ℕ) → i < z.claims → get_or src.claims i no_claim ≡ claim_of (claim_record (claim_body z m i))
  unfolding source_of document_of claim_body
  claim_from i c =
      let a : ℕ = z.formulas + z.threads + 1 + z.lines + 2 in
      let e = claims_counted in
      let d = length-map (part a z.claims m) claim_record in
      get_d_map claim_of (map claim_record (part a z.claims m)) i no_claim (claim_record []) (omega (arith, e))
      ∙ ap claim_of (get_d_map claim_record (part a z.claims m) i (claim_record []) [] (omega (arith, e, d))
      ∙ ap claim_record (part_at a z.claims m i c))

  named_same : (i : ℕ) → named_line z m i ≡ get_or src.named i 0
  unfolding source_of document_of named_line
  named_same i = refl

  by_line : (F : ℕ → Type 0) → ((n : ℕ) → n < z.lines → F (suc n)) → (n : ℕ) → 1 ≤ n → n ≤ z.lines → F n
  by_line F h zero a c = absurd (omega arith)
  by_line F h (suc n) a c = h n (omega arith)

  pub means : Means src (image_of z m)
  unfolding claim_record claim_place source_of
  means = record {
    program = alike s z bs ok;
    outline = outlines_alike s z bs ok;
    count = lines_are;
    lines = λ n w. by_line (λ n. line_of z m (line_body z m n) ≡ line_at src n) line_same n w.0 (omega (arith, w.1, lines_are));
    each_named = (doc s z bs ok).describes.obligations ∙ count_is z m;
    named = named_same;
    claim_count = claims_are;
    claims = λ i c. sym (ap (λ (x : Claimed). x.claim) (claim_from i (omega (arith, claims_are))));
    claim-lines = λ i c. sym (ap (λ (x : Claimed). x.line) (claim_from i (omega (arith, claims_are))));
    places = λ i. omega (arith, formulas_counted, threads_are s z bs ok, lines_are);
  }
