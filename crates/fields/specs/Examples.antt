-- Some fields, computed from the definitions.
-- Assumes nothing.
use Rattle.std.specs.Prelude.{◌≡◌, refl, false, [], ◌∷◌, map, take}
use Rattle.base.specs.Lists.{range}
use Rattle.fields.specs.Field.{well_formed, value, spell}
use Rattle.fields.specs.Scan.{scanned, so_far}

-- "   407" and "  0"
fields : (spell 6 407 ≡ 32 ∷ 32 ∷ 32 ∷ 52 ∷ 48 ∷ 55 ∷ []) × (spell 3 0 ≡ 32 ∷ 32 ∷ 48 ∷ [])
unfolding spell
fields = (refl, refl)

-- "4 7" and "007" are no fields
no_fields : (well_formed (52 ∷ 32 ∷ 55 ∷ []) ≡ false) × (well_formed (48 ∷ 48 ∷ 55 ∷ []) ≡ false)
no_fields = (refl, refl)

-- the value so far after each column of "   407", from none to all six, and the value by places
running :
    (map (λ k. so_far (scanned (take k (spell 6 407)))) (range 0 7) ≡ 0 ∷ 0 ∷ 0 ∷ 0 ∷ 4 ∷ 40 ∷ 407 ∷ []) × (value (spell 6 407) ≡ 407)
unfolding spell
running = (refl, refl)
