-- For private functions alone: no public contract cites this page.
-- The price on the number of open sites, for any such numbers.
use Rattle.std.specs.Prelude.{ℕ, ◌*◌, ℤ, pos, negsuc, ◌*ℤ◌}

-- the price paid hi times, or lo times where it is below 0
abbrev pub price_of : ℕ → ℕ → ℤ → ℤ
price_of lo hi (pos n) = pos (n * hi)
price_of lo hi (negsuc n) = negsuc n *ℤ pos lo
