-- What a box that is prepared answers of a lane.
use Rattle.std.proofs.Common.{◌≡◌, refl, Bool, true, false, not, ◌&&◌}

-- a lane of the instance whose demand is within the end
pub admitted : (torn lane closed barred holds : Bool) → lane ≡ true → (not torn && not closed && holds) ≡ true → not barred ≡ (not torn && lane && not closed && not barred && holds)
admitted false true false false true l e = refl
admitted false true false true true l e = refl
admitted true lane closed barred holds l e = cc
admitted false false closed barred holds l e = cc
admitted false true true barred holds l e = cc
admitted false true false barred false l e = cc
