-- The kinds of an image's records in their order, and records put together from kinds and bodies.
use Rattle.std.specs.Prelude.{List, [], ◌∷◌, ◌++◌, ℕ, ◌+◌, ◌≤◌, length, replicate}
use Rattle.limits.specs.Limits as Limits
use Rattle.image_frames.specs.Kinds as Kinds
use Rattle.trim_spec.specs.Document.{Document}
use Rattle.trim_spec.specs.Encode.{Entry, entry}
use Rattle.trim_spec.specs.Canonical.{Short}

-- the kinds in an image with a formulas, b threads, n lines and m claims
unfoldable pub kinds_of : ℕ → ℕ → ℕ → ℕ → List ℕ
kinds_of a b n m =
    Kinds.header
    ∷ (replicate a Kinds.formula
    ++ (replicate b Kinds.thread ++ (Kinds.outline ∷ (replicate n Kinds.line ++ (Kinds.obligations ∷ replicate m Kinds.claim)))))

-- the kinds of a document's records
abbrev pub kinds_in : Document → List ℕ
kinds_in D = kinds_of (length D.formulas) (length D.threads) (length D.lines) (length D.claims)

-- a formulas, b threads, n lines and m claims are within the limits of an image
pub record Numbered (a b n m : ℕ) : Type 0 where
  pub formula : 1 ≤ a
  pub formulas : a ≤ Limits.formulas
  pub thread : 1 ≤ b
  pub threads : b ≤ Limits.threads
  pub line : 1 ≤ n
  pub lines : n ≤ Limits.lines
  pub claims : m ≤ Limits.claims

-- the records with these kinds and these bodies, member by member
unfoldable pub entered : List ℕ → List (List ℕ) → List Entry
entered [] bs = []
entered (k ∷ ks) [] = []
entered (k ∷ ks) (b ∷ bs) = entry k b ∷ entered ks bs

-- a body whose length, with the two bytes of its kind, is a 16-bit number
abbrev pub Framable : List ℕ → Type 0
Framable b = Short (length b + 2)

-- the kind of a record
abbrev pub kind_of : Entry → ℕ
kind_of e = e.kind

-- the body of a record
abbrev pub body_of : Entry → List ℕ
body_of e = e.body
