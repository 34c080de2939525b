-- What an answer says that refuses bytes.
use Rattle.std.specs.Prelude.{◌≡◌, ℕ, Result, Err}
use Rattle.ss_image.specs.declared.image_fault.ImageFault.{ImageFault}
use Rattle.ss_image.specs.declared.image_fault.ImageFault.TheVariants.{At, Memory}

-- a fault is what the bytes should be answered, or want of memory
abbrev pub Fails : {T : Type 0} → ImageFault → Result T ℕ → Type 0
Fails (At at) read = read ≡ Err at
Fails Memory read = Unit {0}
