-- A test before a writer's own.
use Rattle.std.specs.Prelude.{Err}
use mathlib.Core.Path.{◌≡◌, refl}
use mathlib.Core.Bool.{Bool, true, false, ◌&&◌}
use mathlib.Core.List.{List}
use Prim.Native.Nat.{ℕ}
use Rattle.refusals.specs.declared.Refusal.TheVariants.{Caller}
use Rattle.api.specs.Outputs.{WritesOut, Shown, one}

-- what it refuses is 14, and what it lets pass is the writer's
pub refused_before : (w before : List ℕ) (test given : Bool) {k n : ℕ} → test ≡ false → Shown 1 one (Err Caller) k (one n) → WritesOut (test && given) w before before k n
refused_before w before test given e s = rw e record { written = Err Caller; writes = record { answers = refl; holds = refl }; shows = s }

pub passed_before : {w before after : List ℕ} (test given : Bool) {k n : ℕ} → test ≡ true → WritesOut given w before after k n → WritesOut (test && given) w before after k n
passed_before test given e p = rw e p
