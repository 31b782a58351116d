-- A document's records have the kinds of an image in their order, and are made of those and of their bodies.
use mathlib.Core.Path.{◌≡◌, refl, ap, ap₂, ◌∙◌}
use mathlib.Core.List.{List, [], ◌∷◌, ◌++◌, map, map-append}
use Prim.Native.Nat.{ℕ}
use lib.ListN.{length, replicate}
use Rattle.logic.specs.Obligations.{flat}
use Rattle.image_frames.specs.Kinds as Kinds
use Rattle.trim_spec.specs.Document.{Document}
use Rattle.trim_spec.specs.Encode.{Entry, framed, entries, itself, thread_bytes, line_bytes, claim_bytes, entries_of, bodies_of, encode}
use Rattle.trim_spec.specs.Framed.{kinds_of, kinds_in, entered, kind_of, body_of}

kinds_same : {A : Type 0} (k : ℕ) (f : A → List ℕ) (l : List A) → map kind_of (entries k f l) ≡ replicate (length l) k
kinds_same k f [] = refl
kinds_same k f (x ∷ l) = ap (◌∷◌ k) (kinds_same k f l)

-- records of one kind before others
kinds_run : {A : Type 0} (k : ℕ) (f : A → List ℕ) (l : List A) (es : List Entry) (ks : List ℕ) → map kind_of es ≡ ks
    → map kind_of (entries k f l ++ es) ≡ replicate (length l) k ++ ks
kinds_run k f l es ks h = map-append kind_of (entries k f l) es ∙ ap₂ ◌++◌ (kinds_same k f l) h

pub entered_own : (es : List Entry) → entered (map kind_of es) (map body_of es) ≡ es
unfolding entered
entered_own [] = refl
entered_own (e ∷ es) = ap (◌∷◌ e) (entered_own es)

module _ (D : Document) where
  pub entries_kinds : map kind_of (entries_of D) ≡ kinds_in D
  unfolding entries_of kinds_of
  entries_kinds =
      let c = ap (◌∷◌ Kinds.obligations) (kinds_same Kinds.claim claim_bytes D.claims) in
      let l = ap (◌∷◌ Kinds.outline) (kinds_run Kinds.line line_bytes D.lines _ _ c) in
      let t = kinds_run Kinds.thread thread_bytes D.threads _ _ l in
      ap (◌∷◌ Kinds.header) (kinds_run Kinds.formula itself D.formulas _ _ t)

  pub entered_document : entered (kinds_in D) (bodies_of D) ≡ entries_of D
  unfolding bodies_of
  entered_document = rw (← entries_kinds) (entered_own (entries_of D))

  pub encode_entered : flat framed (entered (kinds_in D) (bodies_of D)) ≡ encode D
  unfolding encode
  encode_entered = ap (flat framed) entered_document
