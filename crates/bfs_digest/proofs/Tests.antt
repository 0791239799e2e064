-- Tests that were passed, or that did not refuse.
use Rattle.std.proofs.Common.{◌≡◌, Bool, true, false, cond, ◌||◌, Option, Some, None, refl}

-- a test that was passed
pub passed : {A : Type 0} (b : Bool) (x y : A) → cond b (Some x) None ≡ Some y → (b ≡ true) × (x ≡ y)
passed true x y e = (refl, cc)
passed false x y e = absurd cc

pub refused_not : {A : Type 0} (b : Bool) (r : Option A) (y : A) → cond b None r ≡ Some y → (b ≡ false) × (r ≡ Some y)
refused_not true r y e = absurd cc
refused_not false r y e = (refl, e)

pub unrefused : {A : Type 0} (b : Bool) (o : Option A) → b ≡ false → cond b None o ≡ o
unrefused b o e = rw e refl

pub or_parts : (a b : Bool) → (a || b) ≡ false → (a ≡ false) × (b ≡ false)
or_parts true b e = absurd cc
or_parts false b e = (refl, e)
