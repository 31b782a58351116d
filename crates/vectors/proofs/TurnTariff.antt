-- The tariff of a turn, which is stored as that of a bill is.
use Rattle.std.proofs.Common.{◌≡◌, List, ℕ, drop, drop-drop}
use Rattle.bill_spec.specs.declared.tariff.Tariff.{Tariff}
use Rattle.vectors.specs.BillAnswer as Bill
use Rattle.vectors.specs.Turn.{tariff_at}

pub tariff_behind : (s r : List ℕ) (f : Tariff) → r ≡ drop 34 s → f ≡ Bill.tariff_at r → f ≡ tariff_at s
unfolding tariff_at Bill.tariff_at
tariff_behind s r f e q = rw (drop-drop 2 34 s, drop-drop 4 34 s, drop-drop 6 34 s, drop-drop 8 34 s) at (rw e at q)
