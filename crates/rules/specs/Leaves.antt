-- What the rules leave, where they are not given: what functions that come behind them may count on.
-- Assumes nothing.
use Rattle.std.specs.Prelude.{ℕ, ◌*◌, ◌≤◌, ◌<◌, ◌≡◌, List, length, get_or}
use Rattle.answers.specs.Numbers.{width}
use Rattle.rules.specs.declared.Roll.{Roll}

-- Lists that have passed rule 1.
pub record Even (arrivals deadlines operations : List ℕ) : Type 0 where
  pub deadlines_long : length deadlines ≡ length arrivals
  pub operations_long : length operations ≡ length arrivals

-- Lists of offsets and operations that have passed rules 1, 2 and 5 to 7.
pub record Fair (arrivals deadlines operations : List ℕ) : Type 0 where
  pub even : Even arrivals deadlines operations
  pub few : length arrivals ≤ 1024
  pub some : (i : ℕ) → i < length arrivals → 1 ≤ get_or operations i 0
  pub work : (i : ℕ) → i < length arrivals → get_or operations i 0 ≤ 65535
  pub arrive : (i : ℕ) → i < length arrivals → get_or arrivals i 0 ≤ 2147483647
  pub due : (i : ℕ) → i < length arrivals → get_or deadlines i 0 ≤ 2147483647

-- Lists and a buffer that have passed rules 1 to 3.
pub record Sized (arrivals deadlines operations buffer : List ℕ) : Type 0 where
  pub even : Even arrivals deadlines operations
  pub few : length arrivals ≤ 1024
  pub room : width * length arrivals ≤ length buffer

-- Terms that have passed rule 4.
pub record Paced (terms : Roll) : Type 0 where
  pub p_some : 1 ≤ terms.p
  pub p_most : terms.p ≤ 65535
  pub q_some : 1 ≤ terms.q
  pub q_most : terms.q ≤ 65535
