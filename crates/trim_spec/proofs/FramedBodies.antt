-- The bodies of framed records are theirs.
use mathlib.Core.Path.{◌≡◌, refl, ap, ◌∙◌}
use mathlib.Core.List.{List, [], ◌∷◌, map}
use Prim.Native.Nat.{ℕ, zero, suc, ◌≤◌}
use native.Mathlib.Omega.{arith}
use lib.ListN.{length}
use Rattle.limits.specs.Limits as Limits
use Rattle.logic.specs.Obligations.{flat}
use Rattle.image_frames.specs.Records.{cut, bodies}
use Rattle.trim_spec.specs.Canonical.{Each}
use Rattle.trim_spec.specs.Encode.{Entry, framed}
use Rattle.trim_spec.specs.Framed.{Framable, body_of}
use Rattle.trim_spec.proofs.FramedFront.{cut_front}

cut_end : (k : ℕ) → cut k [] ≡ []
unfolding cut
cut_end zero = refl
cut_end (suc k) = refl

cut_framed : (k : ℕ) (es : List Entry) → length es ≤ k → Each Framable [] (map body_of es) → cut k (flat framed es) ≡ map body_of es
cut_framed k [] h f = cut_end k
cut_framed zero (e ∷ es) h f = absurd (omega arith)
cut_framed (suc k) (e ∷ es) h f =
    cut_front e (flat framed es) (f 0 (omega arith)) k
    ∙ ap (◌∷◌ e.body) (cut_framed k es (omega arith) (λ i b. f (suc i) (omega arith)))

pub bodies_framed : (es : List Entry) → length es ≤ Limits.records → Each Framable [] (map body_of es)
    → bodies (flat framed es) ≡ map body_of es
unfolding bodies
bodies_framed es h f = cut_framed Limits.records es h f
