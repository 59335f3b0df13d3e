-- What the writer's own functions tell each other: numbers that fit their bytes. No promise of a public function cites it.
-- Assumes nothing.
use Rattle.std.specs.Prelude.{ℕ, ◌^◌, ◌<◌, List, get_or}

-- The numbers of a record fit their four bytes each.
pub record RecordFits (arrival deadline operations : ℕ) : Type 0 where
  pub arrival_fits : arrival < 2 ^ 32
  pub deadline_fits : deadline < 2 ^ 32
  pub operations_fit : operations < 2 ^ 32

-- So do those of the first n records of three lists.
pub record RecordsFit (arrivals deadlines operations : List ℕ) (n : ℕ) : Type 0 where
  pub each : (i : ℕ) → i < n → RecordFits (get_or arrivals i 0) (get_or deadlines i 0) (get_or operations i 0)
