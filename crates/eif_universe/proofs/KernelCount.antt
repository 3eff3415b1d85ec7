-- How many classes there are before any is given.
use Rattle.std.proofs.Common.{◌≡◌, length, refl}
use Rattle.eif_system.specs.Kernel.{kernel, kernel_count}

pub length-kernel : length kernel ≡ kernel_count
unfolding kernel
length-kernel = refl
