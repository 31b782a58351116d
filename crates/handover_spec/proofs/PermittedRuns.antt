-- Code 0 is a handover that the logic permits, so every run across it keeps the new assertions; the promise of the entry point.
use mathlib.Core.Path.{◌≡◌, refl, ap, ap₂, sym, ◌∙◌, subst, subst₂}
use mathlib.Core.Bool.{Bool, true, false, cond}
use mathlib.Core.List.{List, [], ◌∷◌}
use Prim.Native.Nat.{ℕ, suc}
use native.Mathlib.Omega.{arith}
use Rattle.image_index.proofs.IndexBranches.{short_zeros, long_zeros}
use Rattle.limits.proofs.BranchTests.{tests}
use Rattle.std.specs.declared.result.Result.TheVariants.{Err, Ok}
use Rattle.std.specs.declared.option.Option.{Option}
use Rattle.std.specs.declared.option.Option.TheVariants.{None, Some}
use Rattle.semantics.specs.Base.{All}
use Rattle.semantics.specs.Formula.{same_bytes}
use Rattle.logic.specs.Statement.{Statement}
use Rattle.semantics.specs.Machine.{Program}
use Rattle.logic.specs.Obligations.{Obligation, obligations}
use Rattle.logic.specs.Derivation.{Derived, Proved}
use Rattle.handover_spec.specs.declared.refusal.Refusal.TheVariants.{Unlike}
use Rattle.handover_spec.specs.Refusal.{code_told}
use Rattle.handover_spec.specs.Handover.{Handover, EveryRunAcross}
use Rattle.handover_spec.proofs.RunsAcross.{every_run_across}
use Rattle.image_frames.specs.Records.{bodies}
use Rattle.image_header.specs.declared.sizes.Sizes.{Sizes}
use Rattle.image_header.specs.Header.{word_count, value_range}
use Rattle.image.specs.Decode.{Decoded, decoded, sizes_of}
use Rattle.logic_outline.proofs.Marks.{justified_derived}
use Rattle.logic_outline.specs.Verdict.{Image, Finding, accepted, unmet, denied, finding, asks, Bears, AllMet, Admitted}
use Rattle.logic_outline.proofs.Accept.{judge_met, accepted_all}
use Rattle.image_meaning.specs.Program.{program_of, outline_of}
use Rattle.image_meaning.specs.Image.{read, decode, image_of, result_of}
use Rattle.image_meaning.proofs.RecordsChecked.{sound_checks}
use Rattle.image_meaning.proofs.Admitted.{sound_admitted}
use Rattle.verdict_record.specs.declared.verdict.Verdict.TheVariants.{Accepted}
use Rattle.checker_spec.specs.ImageVerdict.{judged, answered, verdict}
use Rattle.checker_spec.specs.Acceptance.{accepted_as, acceptance}
use Rattle.checker_spec.proofs.AcceptedHolds.{granted_holds}
use Rattle.handover_spec.specs.Table.{new_point}
use Rattle.handover_spec.specs.Code.{code_between, header_of, code_of, by_acceptance, handover_code}
use Rattle.handover_spec.specs.Promise.{BothAccepted, Fits, Serve, Decided, permitted, out_of_range, unserved, TrueAcross, Promise}
use Rattle.handover_spec.proofs.BytesAgree.{bytes_equal, equal_bytes}
use Rattle.handover_spec.proofs.Decided.{code_decided, same_threads}

-- an accepted image: each obligation is derived

bears_derived : (D : Image) → Admitted D → (w : Statement) (n : ℕ) → Bears D w n → Derived D.program w
bears_derived D A w n h = subst (Derived D.program) (sym h.says)
    (justified_derived D.program D.certificate A.lines n h.just)

all_derived : (D : Image) → Admitted D → (os : List Obligation) (m : ℕ) → AllMet D os m → All (λ o. Derived D.program (asks D o)) os
all_derived D A [] m h = tt
all_derived D A (o ∷ os) m h = (bears_derived D A (asks D o) (D.named m) h.0, all_derived D A os (suc m) h.1)

accepted_found : (D : Image) (o : Finding) (n : ℕ) → judged D o ≡ Accepted n → o ≡ accepted n
accepted_found D (accepted m) n e = let q : m ≡ n = cc in ap accepted q
accepted_found D (unmet c o l m) n e = let x : ◌≡◌ {A = ℕ} 0 1 = cc in absurd (omega arith)
accepted_found D (denied i m) n e = let x : ◌≡◌ {A = ℕ} 0 1 = cc in absurd (omega arith)

pub accepted_proved : (s : List ℕ) (z : Sizes) → acceptance s ≡ Some z → Proved (program_of z (bodies s)) (outline_of z (bodies s))
unfolding verdict
accepted_proved s z e =
    let g = granted_holds s z e in
    let D : Image = image_of z (bodies s) in
    let f : finding D ≡ accepted g.count = accepted_found D (finding D) g.count (sym (ap answered g.says) ∙ g.verdict) in
    all_derived D (sound_admitted s z g.sound) (obligations D.program) 0
    (judge_met D (obligations D.program) 0 g.count (accepted_all D g.count f).0).0

-- two accepted images with equal headers

module _ (old : List ℕ) (z : Sizes) (new : List ℕ) (y : Sizes) (table : List ℕ) (a : acceptance old ≡ Some z)
    (b : acceptance new ≡ Some y) where
  abbrev P : Program
  P = program_of z (bodies old)

  abbrev Q : Program
  Q = program_of y (bodies new)

  abbrev D : Image
  D = image_of z (bodies old)

  abbrev E : Image
  E = image_of y (bodies new)

  old_sound : decoded old ≡ Ok z
  old_sound = (granted_holds old z a).sound

  new_sound : decoded new ≡ Ok y
  new_sound = (granted_holds new y b).sound

  pub permitted_so : header_of old ≡ header_of new → Fits D E table → Serve D E table
      → Handover P Q (outline_of z (bodies old)) (outline_of y (bodies new)) (new_point P table)
  unfolding sizes_of
  permitted_so h F S = record {
    alike = record {
      threads = same_threads old z new y old_sound new_sound h;
      words = ap (λ (x : Sizes). x.words) (sound_checks old z old_sound).sizes ∙ ap (λ (l : List ℕ). word_count l) h
          ∙ sym (ap (λ (x : Sizes). x.words) (sound_checks new y new_sound).sizes);
      range = ap (λ (l : List ℕ). value_range l) h;
    };
    there = F.points;
    follows = λ t k w l. bears_derived E (sound_admitted new y new_sound) _ _ (S t k w l);
  }

  decided_zero : (n : ℕ) → Decided D E table n → n ≡ 0 → Fits D E table × Serve D E table
  decided_zero n (permitted F S) e = (F, S)
  decided_zero n (out_of_range g) e = absurd (omega arith)
  decided_zero n (unserved F g) e = absurd (omega arith)

  -- code 0 is only for equal headers, a table that fits and lines that serve
  pub zero_so : code_of old z new y table ≡ 0 → (header_of old ≡ header_of new) × (Fits D E table) × (Serve D E table)
  unfolding code_of
  zero_so e = go (same_bytes (header_of old) (header_of new)) refl e
    where
      go : (x : Bool) → same_bytes (header_of old) (header_of new) ≡ x → cond x (code_between D E table) 32 ≡ 0
          → (header_of old ≡ header_of new) × (Fits D E table) × (Serve D E table)
      go true h q =
          let r = decided_zero (code_between D E table) (code_decided D E table (sound_admitted new y new_sound)) q in
          (bytes_equal (header_of old) (header_of new) h, r.0, r.1)
      go false h q = absurd (omega arith)

  pub across_holds : code_of old z new y table ≡ 0 → EveryRunAcross P Q (outline_of y (bodies new)) (new_point P table)
  across_holds e =
      let r = zero_so e in
      every_run_across P Q (outline_of z (bodies old)) (outline_of y (bodies new)) (new_point P table)
      (sound_admitted old z old_sound).program
      (sound_admitted new y new_sound).program (permitted_so r.0 r.1 r.2) (accepted_proved old z a) (accepted_proved new y b)

  both_so : header_of old ≡ header_of new → BothAccepted old new D E
  both_so h = record {
    old_says = (granted_holds old z a).says;
    new_says = (granted_holds new y b).says;
    old_count = (granted_holds old z a).count;
    new_count = (granted_holds new y b).count;
    old_accepted = (granted_holds old z a).verdict;
    new_accepted = (granted_holds new y b).verdict;
    headers = h;
  }

  same_decided : header_of old ≡ header_of new → Decided D E table (code_of old z new y table)
  unfolding code_of
  same_decided h =
      subst (λ (x : Bool). Decided D E table (cond x (code_between D E table) 32)) (sym (equal_bytes (header_of old) (header_of new) h))
      (code_decided D E table (sound_admitted new y new_sound))

  other_unlike : (BothAccepted old new D E → ⊥) → code_of old z new y table ≡ 32
  unfolding code_of
  other_unlike g = go (same_bytes (header_of old) (header_of new)) refl
    where
      go : (x : Bool) → same_bytes (header_of old) (header_of new) ≡ x → cond x (code_between D E table) 32 ≡ 32
      go true h = absurd (g (both_so (bytes_equal (header_of old) (header_of new) h)))
      go false h = refl

-- what an image that is accepted says is what its records hold
record Said (s : List ℕ) (D : Image) : Type 0 where
  sizes : Sizes
  granted : acceptance s ≡ Some sizes
  same : image_of sizes (bodies s) ≡ D

said : (s : List ℕ) (D : Image) (n : ℕ) → decode s ≡ read D → verdict s ≡ Accepted n → Said s D
unfolding acceptance decode
said s D n e v = go (decoded s) refl e
  where
    go : (d : Decoded) → decoded s ≡ d → result_of (bodies s) d ≡ read D → Said s D
    go (Err r) h q = let x : ◌≡◌ {A = ℕ} 0 1 = cc in absurd (omega arith)
    go (Ok z) h q = record { sizes = z; granted = ap₂ accepted_as h v; same = cc }

module _ (old new table : List ℕ) where
  code_is : (x w : Option Sizes) → acceptance old ≡ x → acceptance new ≡ w → handover_code old new table ≡ by_acceptance old new table x w
  unfolding handover_code
  code_is x w e d = ap₂ (by_acceptance old new table) e d

  decided_so : (D E : Image) → BothAccepted old new D E → Decided D E table (handover_code old new table)
  decided_so D E B = go (said old D B.old_count B.old_says B.old_accepted)
      (said new E B.new_count B.new_says B.new_accepted)
    where
      go : Said old D → Said new E → Decided D E table (handover_code old new table)
      go x w =
          subst (Decided D E table) (sym (code_is (Some x.sizes) (Some w.sizes) x.granted w.granted))
          (subst₂ (λ (C F : Image). Decided C F table (code_of old x.sizes new w.sizes table)) x.same w.same
          (same_decided old x.sizes new w.sizes table x.granted w.granted B.headers))

  otherwise_so : ((D E : Image) → BothAccepted old new D E → ⊥) → handover_code old new table ≡ 32
  otherwise_so g = go (acceptance old) (acceptance new) refl refl
    where
      go : (x w : Option Sizes) → acceptance old ≡ x → acceptance new ≡ w → handover_code old new table ≡ 32
      go None w e d = code_is None w e d
      go (Some z) None e d = code_is (Some z) None e d
      go (Some z) (Some y) e d = code_is (Some z) (Some y) e d ∙ other_unlike old z new y table e d
          (g (image_of z (bodies old)) (image_of y (bodies new)))

  across_so : handover_code old new table ≡ 0 → TrueAcross old new table
  across_so q = go (acceptance old) (acceptance new) refl refl
    where
      go : (x w : Option Sizes) → acceptance old ≡ x → acceptance new ≡ w → TrueAcross old new table
      go None w e d = let p = sym (code_is None w e d) ∙ q in absurd (omega arith)
      go (Some z) None e d = let p = sym (code_is (Some z) None e d) ∙ q in absurd (omega arith)
      go (Some z) (Some y) e d = record {
        content = image_of z (bodies old);
        following = image_of y (bodies new);
        says = (granted_holds old z e).says;
        follows = (granted_holds new y d).says;
        holds = across_holds old z new y table e d (sym (code_is (Some z) (Some y) e d) ∙ q);
      }

  promised : (code : ℕ) → code ≡ handover_code old new table → Promise old new table code
  promised code e = record {
    returned = e;
    decided = λ D E B. subst (Decided D E table) (sym e) (decided_so D E B);
    otherwise = λ g. e ∙ otherwise_so g;
    across = λ h. across_so (sym e ∙ h);
  }

  -- the ways through the entry point

  module _ (x : Option Sizes) (ex : x ≡ acceptance old) where
    pub old_declined : x ≡ None → Promise old new table (code_told (Err Unlike))
    old_declined h = promised 32 (sym (code_is None (acceptance new) (sym ex ∙ h) refl))

    pub old_granted : (z : Sizes) (r : ℕ) → x ≡ Some z → r ≡ by_acceptance old new table (Some z) (acceptance new)
        → Promise old new table r
    old_granted z r h q = promised r (q ∙ sym (code_is (Some z) (acceptance new) (sym ex ∙ h) refl))

  module _ (z : Sizes) (w : Option Sizes) (ew : w ≡ acceptance new) where
    pub new_declined : w ≡ None → code_told (Err Unlike) ≡ by_acceptance old new table (Some z) (acceptance new)
    new_declined g = ap (by_acceptance old new table (Some z)) (sym g ∙ ew)

    pub new_granted : (y : Sizes) (r : ℕ) → w ≡ Some y → r ≡ code_of old z new y table
        → r ≡ by_acceptance old new table (Some z) (acceptance new)
    new_granted y r g q = q ∙ ap (by_acceptance old new table (Some z)) (sym g ∙ ew)

pub granted_sound : (s : List ℕ) (x : Option Sizes) (z : Sizes) → x ≡ acceptance s → x ≡ Some z → decoded s ≡ Ok z
granted_sound s x z e h = (granted_holds s z (sym e ∙ h)).sound

pub ruleset old_by = (old_declined, old_granted, granted_sound)

pub ruleset new_by = (new_declined, new_granted, granted_sound)

-- an index that is lent has as many zeros as a table of its image

pub ruleset zeros = (short_zeros, long_zeros, tests)
