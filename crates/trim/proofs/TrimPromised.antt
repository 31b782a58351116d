-- What the entry point promises, from the answer and the buffer.
use mathlib.Core.Path.{◌≡◌, refl, ap, sym, ◌∙◌, subst}
use mathlib.Core.Bool.{Bool, true, false, cond}
use mathlib.Core.List.{List, [], ◌∷◌, ◌++◌}
use Prim.Native.Nat.{ℕ}
use native.Mathlib.Omega.{arith}
use lib.Dec.{ltb}
use lib.ListN.{length, take, drop}
use Rattle.std.specs.Prelude.{Option, Some, None, Ok, Err}
use Rattle.checker_spec.specs.Acceptance.{acceptance}
use Rattle.image_header.specs.declared.sizes.Sizes.{Sizes}
use Rattle.checker_spec.proofs.AcceptedHolds.{granted_holds}
use Rattle.trim_spec.specs.Canonical.{Bytes}
use Rattle.trim_encode.specs.Trimmed.{trimmed_bytes, Trimmed}
use Rattle.trim_encode.specs.Answer.{Answer, code_of, length_of, answered_by, buffer_by, answer_with, buffer_with, answer_for, buffer_for}
use Rattle.trim.specs.Promise.{Promise}
use Rattle.trim_encode.specs.declared.answer.Untrimmed.TheVariants.{Short}
use Rattle.trim.proofs.TrimmedKeeps.{is_trimmed}

take_front : (t r : List ℕ) → take (length t) (t ++ r) ≡ t
take_front [] r = refl
take_front (x ∷ t) r = ap (λ (l : List ℕ). x ∷ l) (take_front t r)

module _ (s o : List ℕ) (b : Bytes s) where
  -- with code 0 the image is accepted and there was room
  trimmed_with : (a : Option Sizes) → acceptance s ≡ a → code_of (answer_with s o a) ≡ 0
      → Trimmed s (take (length_of (answer_with s o a)) (buffer_with s o a))
  unfolding answered_by buffer_by
  trimmed_with None e h = absurd (omega arith)
  trimmed_with (Some z) e h = go (ltb (length o) (length t)) h
    where
      t : List ℕ
      t = trimmed_bytes z s

      go : (x : Bool) → code_of (cond x (Err Short) (Ok (length t))) ≡ 0
          → Trimmed s (take (length_of (cond x (Err Short) (Ok (length t)))) (cond x o (t ++ drop (length t) o)))
      go true q = absurd (omega arith)
      go false q = subst (Trimmed s) (sym (take_front t (drop (length t) o))) (is_trimmed s z b (granted_holds s z e))

  pub promised : (r : Answer) (c n : ℕ) (after : List ℕ) → r ≡ answer_for s o → after ≡ buffer_for s o → c ≡ code_of r → n ≡ length_of r
      → Promise s o c n after
  unfolding answer_for buffer_for
  promised r c n after e d h g =
      let k : c ≡ code_of (answer_for s o) = h ∙ ap code_of e in
      let m : n ≡ length_of (answer_for s o) = g ∙ ap length_of e in
      record {
        returned = k;
        told = m;
        bytes = d;
        trimmed = λ q. rw (m, d) (trimmed_with (acceptance s) refl (sym k ∙ q));
      }
