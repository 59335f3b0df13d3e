-- 01's sample: the list of two reports, and its 40 bytes.
-- Assumes nothing.
use mathlib.Core.Path.{◌≡◌, refl}
use mathlib.Core.List.{[], ◌∷◌}
use Rattle.writer.specs.Bytes.{records_up_to, roll_bytes}

-- 64000000 68000000 02000000 64000000 70000000 02000000 28000000 64000000 0200 0100 0100 4151
pub sample_bytes :
    roll_bytes (record { arrivals = 100 ∷ 100 ∷ []; deadlines = 104 ∷ 112 ∷ []; operations = 2 ∷ 2 ∷ []; terms = record { reference = 100; p = 1; q = 1 } })
    ≡ 0x64 ∷ 0 ∷ 0 ∷ 0 ∷ 0x68 ∷ 0 ∷ 0 ∷ 0 ∷ 2 ∷ 0 ∷ 0 ∷ 0
    ∷ 0x64 ∷ 0 ∷ 0 ∷ 0 ∷ 0x70 ∷ 0 ∷ 0 ∷ 0 ∷ 2 ∷ 0 ∷ 0 ∷ 0
    ∷ 0x28 ∷ 0 ∷ 0 ∷ 0 ∷ 0x64 ∷ 0 ∷ 0 ∷ 0 ∷ 2 ∷ 0 ∷ 1 ∷ 0 ∷ 1 ∷ 0 ∷ 0x41 ∷ 0x51 ∷ []
unfolding records_up_to
sample_bytes = refl
