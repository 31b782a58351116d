-- The ways through trimming, one law for each.
use mathlib.Core.Path.{◌≡◌, ap, sym, ◌∙◌}
use mathlib.Core.Bool.{Bool}
use mathlib.Core.List.{List, ◌++◌}
use Prim.Native.Nat.{ℕ, suc, ◌≤◌, ◌<◌}
use borrow.Author.Tests.{lt-ltb, le-ltb}
use lib.ListN.{length, drop, replicate}
use Rattle.limits.specs.Limits as Limits
use Rattle.image_frames.specs.Records.{bodies}
use Rattle.image_header.specs.declared.sizes.Sizes.{Sizes}
use Rattle.image_index.proofs.IndexBranches.{short_zeros, long_zeros}
use Rattle.image.specs.Decode.{record_count}
use Rattle.std.specs.Prelude.{Option, Some, None, Ok, Err}
use Rattle.checker_spec.specs.Acceptance.{acceptance}
use Rattle.checker_spec.proofs.AcceptedHolds.{Holds, granted_holds}
use Rattle.trim_spec.specs.Canonical.{Bytes}
use Rattle.trim_spec.specs.Encode.{encode}
use Rattle.trim_spec.specs.Parse.{document_of}
use Rattle.trim_spec.proofs.DocumentInverse.{Documented, documented}
use Rattle.trim_spec.proofs.BodyPlaces.{bodies_length}
use Rattle.trim_spec.specs.Live.{kept, used}
use Rattle.trim_spec.specs.Trim.{trimmed_by, trim}
use Rattle.trim_spec.proofs.LiveLines.{kept_length}
use Rattle.trim_spec.proofs.LiveFormulas.{used_length}
use Rattle.trim_encode.specs.LeftOutBytes.{Lengths}
use Rattle.trim_encode.proofs.ImageLengths.{sound_lengths}
use Rattle.trim_encode.specs.Trimmed.{trimmed_bytes}
use Rattle.trim_encode.specs.TrimAccepted.{Accepted}
use Rattle.trim_encode.specs.Answer.{Answer, answered_by, buffer_by, answer_for, buffer_for, answer_with, buffer_with}
use Rattle.trim_encode.specs.declared.answer.Untrimmed.TheVariants.{NotAccepted, Short}

module _ (s : List ℕ) (z : Sizes) (A : Accepted s z) where
  holds : Holds s z
  holds = granted_holds s z A.granted

  d : Documented s z
  d = documented s z A.bytes holds.sound

  pub records_all : length (bodies s) ≡ record_count z
  records_all = sym (ap length d.describes.body) ∙ bodies_length (document_of z (bodies s)) d.describes.threads
      ∙ ap record_count d.describes.size

  pub lengths : Lengths z s
  lengths = sound_lengths s z holds.sound records_all (ap length d.encodes)

-- the tables of new numbers, before they are filled

pub formulas_table : (s : List ℕ) (z : Sizes) (u : List Bool) (t : List ℕ) → u ≡ used (document_of z (bodies s))
    → t ≡ replicate (suc Limits.formulas) 0 → t ≡ replicate (length u) 0
formulas_table s z u t e h = h ∙ ap (λ (n : ℕ). replicate n 0) (sym (ap length e ∙ used_length (document_of z (bodies s))))

pub lines_table : (s : List ℕ) (z : Sizes) (k : List Bool) (t : List ℕ) → k ≡ kept (document_of z (bodies s))
    → t ≡ replicate (suc Limits.lines) 0 → t ≡ replicate (length k) 0
lines_table s z k t e h = h ∙ ap (λ (n : ℕ). replicate n 0) (sym (ap length e ∙ kept_length (document_of z (bodies s))))

module _ (s : List ℕ) (z : Sizes) (u k : List Bool) (eu : u ≡ used (document_of z (bodies s)))
    (ek : k ≡ kept (document_of z (bodies s))) where
  trimmed_is : encode (trimmed_by u k (document_of z (bodies s))) ≡ trimmed_bytes z s
  unfolding trimmed_bytes trim
  trimmed_is = rw (eu, ek)

  pub trimmed_room : (o : List ℕ) → length (trimmed_bytes z s) ≤ length o
      → length (encode (trimmed_by u k (document_of z (bodies s)))) ≤ length o
  trimmed_room o h = rw trimmed_is h

  pub trimmed_written : (o after : List ℕ) → length (trimmed_bytes z s) ≤ length o
      → after ≡ encode (trimmed_by u k (document_of z (bodies s))) ++ drop (length (encode (trimmed_by u k (document_of z (bodies s))))) o
      → after ≡ buffer_by (trimmed_bytes z s) o
  unfolding buffer_by
  trimmed_written o after h e = rw (le-ltb _ _ h) (e ∙ rw trimmed_is)

module _ (s : List ℕ) (z : Sizes) (n : ℕ) (o : List ℕ) (e : n ≡ length (encode (trim (document_of z (bodies s))))) where
  pub short_answer : length o < n → Err Short ≡ answered_by (trimmed_bytes z s) o
  unfolding answered_by trimmed_bytes
  short_answer h = rw (← e, lt-ltb _ _ h)

  pub short_buffer : length o < n → o ≡ buffer_by (trimmed_bytes z s) o
  unfolding buffer_by trimmed_bytes
  short_buffer h = rw (← e, lt-ltb _ _ h)

  pub done_answer : n ≤ length o → Ok n ≡ answered_by (trimmed_bytes z s) o
  unfolding answered_by trimmed_bytes
  done_answer h = rw (← e, le-ltb _ _ h)

pub room : (s : List ℕ) (z : Sizes) (n m : ℕ) → n ≡ length (encode (trim (document_of z (bodies s)))) → n ≤ m → length (trimmed_bytes z s) ≤ m
unfolding trimmed_bytes
room s z n m e h = rw (← e) h

pub ruleset trim_accepted_branches = (
  records_all,
  lengths,
  formulas_table,
  lines_table,
  trimmed_room,
  trimmed_written,
  short_answer,
  short_buffer,
  done_answer,
)

pub accepted_of : (s : List ℕ) (a : Option Sizes) (z : Sizes) → Bytes s → a ≡ acceptance s → a ≡ Some z → Accepted s z
accepted_of s a z b e h = record { bytes = b; granted = sym e ∙ h }

module _ (s o : List ℕ) (a : Option Sizes) (e : a ≡ acceptance s) where
  pub granted_answer : (z : Sizes) (r : Answer) → a ≡ Some z → r ≡ answered_by (trimmed_bytes z s) o → r ≡ answer_for s o
  unfolding answer_for
  granted_answer z r h q = q ∙ ap (answer_with s o) (sym h ∙ e)

  pub granted_buffer : (z : Sizes) (after : List ℕ) → a ≡ Some z → after ≡ buffer_by (trimmed_bytes z s) o → after ≡ buffer_for s o
  unfolding buffer_for
  granted_buffer z after h q = q ∙ ap (buffer_with s o) (sym h ∙ e)

  pub declined_answer : a ≡ None → Err NotAccepted ≡ answer_for s o
  unfolding answer_for
  declined_answer h = ap (answer_with s o) (sym h ∙ e)

  pub declined_buffer : a ≡ None → o ≡ buffer_for s o
  unfolding buffer_for
  declined_buffer h = ap (buffer_with s o) (sym h ∙ e)

pub ruleset trim_by_branches = (granted_answer, granted_buffer, declined_answer, declined_buffer, short_zeros, long_zeros)
