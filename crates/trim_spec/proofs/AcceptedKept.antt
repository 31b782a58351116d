-- An accepted image, trimmed: each obligation is met and each claim borne out, by the same lines under their new numbers.
use mathlib.Core.Path.{◌≡◌, refl, ap, sym, ◌∙◌, subst}
use mathlib.Core.Bool.{Bool, true, false}
use mathlib.Core.List.{List}
use mathlib.Core.Logic.{◌≢◌}
use Prim.Native.Nat.{ℕ, ◌≤◌, ◌<◌}
use native.Mathlib.Omega.{arith}
use lib.Dec.{ltb}
use borrow.Author.Tests.{ltb-true, ltb-false}
use lib.ListN.{length, get_or, drop, get_or-eq_default}
use Rattle.semantics.specs.Machine.{Program, Instr, Instr.act, Instr.branch}
use Rattle.semantics.specs.EveryRun.{Outline}
use Rattle.logic.specs.Statement.{Statement}
use Rattle.logic.specs.Obligations.{Obligation, Obligation.start, Obligation.step, Obligation.taken, Obligation.interference, wants_next, wants_target, wants, obligations}
use Rattle.logic.specs.Claims.{claims}
use Rattle.limits.specs.Numbers.{le16}
use Rattle.image_header.specs.declared.sizes.Sizes.{Sizes}
use Rattle.image_bodies.specs.PointCounts.{point_counts, obligation_count}
use Rattle.image.specs.Decode.{sizes_of}
use Rattle.logic_outline.specs.Verdict.{Image, Bears, asks, forbids}
use Rattle.logic_outline.specs.Judged.{total, numbered, EachMet, EachSustained}
use Rattle.image_meaning.specs.Program.{point_count, program_of, outline_of}
use Rattle.image_meaning.specs.Certificate.{certificate_of}
use Rattle.image_meaning.specs.Image.{named_line, claim_body, claims_of, image_of}
use Rattle.trim_spec.specs.Document.{Document}
use Rattle.trim_spec.specs.Encode.{bodies_of}
use Rattle.trim_spec.specs.Parse.{sizes}
use Rattle.trim_spec.specs.Live.{renumbered, kept, used}
use Rattle.trim_spec.specs.Trim.{trimmed_by}
use Rattle.trim_spec.specs.Rests.{Rests, obligation, claim}
use Rattle.trim_spec.proofs.MarkCounts.{renumbered_0, renumbered_low}
use Rattle.trim_spec.proofs.Renumbered.{claims_length}
use Rattle.trim_spec.proofs.LiveLines.{Named, rests_kept}
use Rattle.trim_spec.proofs.LiveFormulas.{Written}
use Rattle.trim_spec.proofs.TrimPremises.{Trimming}
use Rattle.trim_spec.proofs.AbsentPoints.{with_points, obligations_same}
use Rattle.trim_spec.proofs.JustifiedTransfer.{carried}
use Rattle.trim_spec.proofs.ContentKept as Content
use Rattle.trim_spec.proofs.ContentKept.{Line-stays}

-- what an obligation wants does not go by points
module _ (P : Program) (p : ℕ → ℕ) (O : Outline) where
  next_same : (t k : ℕ) (c : Instr) → wants_next (with_points P p) O t k c ≡ wants_next P O t k c
  next_same t k (act A ns) = refl
  next_same t k (branch e a) = refl

  target_same : (t k : ℕ) (c : Instr) → wants_target (with_points P p) O t k c ≡ wants_target P O t k c
  target_same t k (act A ns) = refl
  target_same t k (branch e a) = refl

  wants_same : (o : Obligation) → wants (with_points P p) O o ≡ wants P O o
  wants_same (start t) = refl
  wants_same (step t k) = next_same t k (P.code t k)
  wants_same (taken t k) = target_same t k (P.code t k)
  wants_same (interference u j t k) = refl

module _ (D : Document) (N : Named D) (F : Written D) (T : Trimming (used D) (kept D) D) where
  abbrev E : Document
  E = trimmed_by (used D) (kept D) D

  abbrev g : ℕ → ℕ
  g = renumbered (kept D)

  abbrev z : Sizes
  z = sizes D

  abbrev l : List (List ℕ)
  l = bodies_of D

  abbrev z' : Sizes
  z' = sizes E

  abbrev l' : List (List ℕ)
  l' = bodies_of E

  abbrev P : Program
  P = program_of z l

  abbrev p : ℕ → ℕ
  p = point_count z' l'

  module _ (O : length D.outline ≡ (point_counts z l).points) (B : length D.obligations ≡ obligation_count z l) where
    abbrev old : Image
    old = image_of z l

    abbrev new : Image
    new = image_of z' l'

    -- the new image with the old program and outline
    abbrev same : Image
    same = record {
      program = with_points P p;
      outline = outline_of z l;
      certificate = certificate_of z' l';
      named = named_line z' l';
      claims = claims_of z' l';
    }

    image_is : new ≡ same
    image_is = λ i. record {
      program = Content.program_kept D N F T i;
      outline = λ t k. Content.outline_kept D N F T O B t k i;
      certificate = certificate_of z' l';
      named = named_line z' l';
      claims = claims_of z' l';
    }

    -- a line on which something rests bears out in the new image what it bore out
    bears_kept : (w : Statement) (n : ℕ) → Rests D n → Bears old w n → Bears same w (g n)
    bears_kept w n r b =
        let low : 1 ≤ n = let h = b.there in omega arith in
        let k = rests_kept D N n r in
        let S : Line-stays D N F T O B n = record { low = low; high = k.0; mark = k.1 } in
        let K = Content.lines_kept D N F T O B in
        record {
          there = λ e. absurd (let h = renumbered_low (kept D) n low k.1 in omega arith);
          says = b.says ∙ sym (K.says n S);
          just = carried P p (certificate_of z l) (certificate_of z' l') (Line-stays D N F T O B) g (renumbered_0 (kept D)) K b.just S;
        }

    named_rests : (k : ℕ) → named_line z l k ≢ 0 → Rests D (named_line z l k)
    named_rests k h = subst (Rests D) (sym (Content.named_old D N F T O B k)) (go (ltb k (length D.obligations)) refl)
      where
        go : (b : Bool) → ltb k (length D.obligations) ≡ b → Rests D (get_or D.obligations k 0)
        go true e = obligation k (ltb-true k (length D.obligations) e)
        go false e =
            absurd
            (h (Content.named_old D N F T O B k ∙ get_or-eq_default D.obligations 0 (ltb-false k (length D.obligations) e)))

    owed_same : obligations (with_points P p) ≡ obligations P
    unfolding sizes sizes_of
    owed_same = obligations_same P p (Content.points_kept D N F T)

    pub total_kept : total new ≡ total old
    total_kept = ap total image_is ∙ ap length owed_same

    met_same : EachMet old → EachMet same
    met_same h k b =
        let o : Obligation = numbered old k in
        let m : Bears old (asks old o) (named_line z l k) =
        h k (let q : length (obligations (with_points P p)) ≡ length (obligations P) = ap length owed_same in omega arith) in
        let e : numbered same k ≡ o = ap (λ (os : List Obligation). get_or os k (start 0)) owed_same in
        let d : asks same (numbered same k) ≡ asks old o = ap (wants (with_points P p) (outline_of z l)) e
        ∙ wants_same P p (outline_of z l) o in
        let r : Bears same (asks old o) (g (named_line z l k)) = bears_kept (asks old o) (named_line z l k) (named_rests k m.there) m in
        subst (λ (w : Statement). Bears same w (named_line z' l' k)) (sym d)
        (subst (Bears same (asks old o)) (sym (Content.named_kept D N F T O B k)) r)

    pub met_kept : EachMet old → EachMet new
    met_kept h = subst EachMet (sym image_is) (met_same h)

    sustained_same : EachSustained old → EachSustained same
    unfolding sizes sizes_of
    sustained_same h i b =
        let c : i < length D.claims = let q = claims_length (used D) (kept D) D in omega arith in
        let m : Bears old (forbids old i) (le16 (drop 4 (claim_body z l i))) = h i c in
        let e : forbids same i ≡ forbids old i = ap (claims (outline_of z l)) (Content.claim_kept D N F T O B i c) in
        let q : Rests D (le16 (drop 4 (claim_body z l i))) = subst (Rests D) (sym (Content.claimed_old D N F T O B i c)) (claim i c) in
        subst (λ (w : Statement). Bears same w (le16 (drop 4 (claim_body z' l' i)))) (sym e)
        (subst (Bears same (forbids old i)) (sym (Content.claimed_kept D N F T O B i c))
        (bears_kept (forbids old i) (le16 (drop 4 (claim_body z l i))) q m))

    pub sustained_kept : EachSustained old → EachSustained new
    sustained_kept h = subst EachSustained (sym image_is) (sustained_same h)
