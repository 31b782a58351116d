-- What trimming goes by: an image that is well formed, and marks that leave out nothing that is named.
use mathlib.Core.Path.{◌≡◌, sym, ◌∙◌}
use mathlib.Core.Bool.{Bool}
use mathlib.Core.List.{List}
use lib.ListN.{length}
use Rattle.image_header.specs.Header.{thread_count}
use Rattle.image_meaning.proofs.RecordsChecked.{Checks}
use Rattle.trim_spec.specs.Document.{Document}
use Rattle.trim_spec.specs.Canonical.{Canonical}
use Rattle.trim_spec.specs.Encode.{bodies_of}
use Rattle.trim_spec.specs.Parse.{sizes}
use Rattle.trim_spec.specs.Trim.{trimmed_by}
use Rattle.trim_spec.proofs.Closed.{Closed}
use Rattle.trim_spec.proofs.Renumbered.{threads_length}

pub record Trimming (u k : List Bool) (D : Document) : Type 0 where
  pub canonical : Canonical D
  pub closed : Closed u k D
  -- as many threads as the header says
  pub threads : thread_count D.header ≡ length D.threads
  pub checks : Checks (sizes D) (bodies_of D)

-- the trimmed document has as many
pub threads_kept : {u k : List Bool} {D : Document} → Trimming u k D
    → thread_count (trimmed_by u k D).header ≡ length (trimmed_by u k D).threads
threads_kept {u} {k} {D} T = T.threads ∙ sym (threads_length u k D)
