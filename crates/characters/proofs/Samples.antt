-- Computed: the Standard's own examples, those of D92 and of the text under Table 3-7; and which characters are direction marks.
-- Assumes nothing.
use mathlib.Core.Path.{◌≡◌, refl}
use mathlib.Core.Bool.{true, false, not}
use mathlib.Core.List.{List, [], ◌∷◌}
use Prim.Native.Nat.{ℕ}
use Rattle.lists.specs.All.{all}
use Rattle.lists.specs.Cut.{pieces, cut}
use Rattle.characters.specs.Utf8.{table, behind, begins, joined, read_by, first, next, chars, is_scalar, width, encode, encode_all, bytes_before, valid_up_to}
use Rattle.characters.specs.Direction.{is_direction}

-- <004D, 0430, 4E8C, 10302> is <4D D0 B0 E4 BA 8C F0 90 8C 82>
example : List ℕ
example = 0x4D ∷ 0xD0 ∷ 0xB0 ∷ 0xE4 ∷ 0xBA ∷ 0x8C ∷ 0xF0 ∷ 0x90 ∷ 0x8C ∷ 0x82 ∷ []

written : encode_all (0x004D ∷ 0x0430 ∷ 0x4E8C ∷ 0x10302 ∷ []) ≡ example
unfolding encode_all encode example
written = refl

read : chars example ≡ 0x004D ∷ 0x0430 ∷ 0x4E8C ∷ 0x10302 ∷ []
unfolding chars cut pieces next first read_by behind table begins joined example
read = refl

-- <F4 80 83 92> is well-formed; <C0 AF> and <E0 9F 80> are not, from their first byte on

well_formed : valid_up_to (0xF4 ∷ 0x80 ∷ 0x83 ∷ 0x92 ∷ []) ≡ 4
unfolding valid_up_to bytes_before width chars cut pieces next first read_by behind table begins joined
well_formed = refl

no_first_byte : valid_up_to (0xC0 ∷ 0xAF ∷ []) ≡ 0
unfolding valid_up_to bytes_before width chars cut pieces next first read_by behind table begins joined
no_first_byte = refl

no_second_byte : valid_up_to (0xE0 ∷ 0x9F ∷ 0x80 ∷ []) ≡ 0
unfolding valid_up_to bytes_before width chars cut pieces next first read_by behind table begins joined
no_second_byte = refl

-- a surrogate is no scalar value, and its bytes are none
surrogate : is_scalar 0xD800 ≡ false
unfolding is_scalar
surrogate = refl

surrogate_bytes : chars (0x41 ∷ 0xED ∷ 0xA0 ∷ 0x80 ∷ []) ≡ 0x41 ∷ 1114349 ∷ 1114272 ∷ 1114240 ∷ []
unfolding chars cut pieces next first read_by behind table begins joined
surrogate_bytes = refl

-- the nine direction marks, and the characters beside them
nine : all is_direction (0x202A ∷ 0x202B ∷ 0x202C ∷ 0x202D ∷ 0x202E ∷ 0x2066 ∷ 0x2067 ∷ 0x2068 ∷ 0x2069 ∷ []) ≡ true
unfolding all
nine = refl

beside : all (λ c. not (is_direction c)) (0x2029 ∷ 0x202F ∷ 0x2065 ∷ 0x206A ∷ []) ≡ true
unfolding all
beside = refl
