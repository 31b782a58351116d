-- What a sound image says is admitted: what codes 5 to 9 leave of images. So an accepted one is true in every run.
use mathlib.Core.Path.{◌≡◌, refl, subst}
use mathlib.Core.List.{List}
use Prim.Native.Nat.{ℕ, ◌<◌}
use native.Mathlib.Omega.{arith}
use Rattle.semantics.specs.EveryRun.{EveryRun}
use Rattle.logic.specs.Claims.{NeverBoth}
use Rattle.image_frames.specs.declared.fault.Fault.{Fault}
use Rattle.image_frames.specs.Records.{bodies}
use Rattle.image_header.specs.declared.sizes.Sizes.{Sizes}
use Rattle.image.specs.Decode.{decoded, Decoded}
use Rattle.logic_outline.specs.Verdict.{Image, Admitted, accepted, finding}
use Rattle.logic_outline.proofs.Accept.{accepted_sound, accepted_all, accepted_never}
use Rattle.image_meaning.specs.Image.{image_of, refused, read, result_of, decode}
use Rattle.image_meaning.proofs.RecordsChecked.{Checks, sound_checks}
use Rattle.image_meaning.proofs.WellFormedProgram.{well-formed}
use Rattle.image_meaning.proofs.LinesAdmitted.{line_admitted, line_lower, claim_fine}
use Rattle.std.specs.Prelude.{Ok, Err}

pub checks_admitted : (z : Sizes) (l : List (List ℕ)) → Checks z l → Admitted (image_of z l)
checks_admitted z l c = record {
  program = well-formed z l c;
  lines = λ n w. line_admitted z l c n w.0 w.1;
  lower = λ n w. line_lower z l c n w.0 w.1;
  claims = λ i b. let h = claim_fine z l c i b in (h.thread, h.other);
}

pub sound_admitted : (s : List ℕ) (z : Sizes) → decoded s ≡ Ok z → Admitted (image_of z (bodies s))
sound_admitted s z e = checks_admitted z (bodies s) (sound_checks s z e)

-- what is read was sound
refused_read : (f : Fault) (i : ℕ) (D : Image) → refused f i ≡ read D → ⊥
refused_read f i D e = let q : ◌≡◌ {A = ℕ} 0 1 = cc in omega arith

pub decode_admitted : (s : List ℕ) (D : Image) → decode s ≡ read D → Admitted D
unfolding decode
decode_admitted s D e = go (decoded s) refl e
  where
    go : (d : Decoded) → decoded s ≡ d → result_of (bodies s) d ≡ read D → Admitted D
    go (Err r) h q = absurd (refused_read r.fault r.«record» D q)
    go (Ok z) h q = let x : image_of z (bodies s) ≡ D = cc in subst Admitted x (sound_admitted s z h)

pub accepted_every_run : (s : List ℕ) (D : Image) (n : ℕ) → decode s ≡ read D → finding D ≡ accepted n → EveryRun D.program D.outline
accepted_every_run s D n e h = accepted_sound D (decode_admitted s D e) n (accepted_all D n h).0

pub accepted_claims : (s : List ℕ) (D : Image) (n : ℕ) → decode s ≡ read D → finding D ≡ accepted n
    → (i : ℕ) → i < D.claims.count → NeverBoth D.program (D.claims.claim i)
accepted_claims s D n e h = accepted_never D (decode_admitted s D e) n h
