-- The three-way form: which case allows only no.
use Rattle.std.proofs.Common.{◌≡◌, false, refl}
use Rattle.truth.specs.Forms.{only_no}
use Rattle.truth.specs.Three.{here, means, is_no}
use Rattle.truth.specs.declared.three.Three.{Three}
use Rattle.truth.specs.declared.three.Three.TheVariants.{Yes, No, Open}

pub not_no : (v : Three) → (v ≡ No → ⊥) → false ≡ is_no v
not_no Yes h = refl
not_no No h = absurd (h refl)
not_no Open h = refl

pub only_no_here : (v : Three) → means v here ≡ only_no → v ≡ No
only_no_here Yes e = cc
only_no_here No e = refl
only_no_here Open e = cc
