-- One source that is kept is enough: there is no other for its bytes.
use mathlib.Core.Path.{refl, sym, subst}
use Rattle.source.specs.Source.{Source}
use Rattle.source.specs.Written.{written}
use Rattle.source.specs.TrueFor.{Kept, TrueFor}
use Rattle.source.proofs.WrittenOnce.{written_once}

pub kept_true : (s : Source) → Kept s → TrueFor (written s)
kept_true s k = record { source = s; bytes = refl; kept = λ t e. subst Kept (written_once s t (sym e)) k }
