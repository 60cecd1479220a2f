-- THE END IS A NUL BEHIND: with one character left, and with that character and a NUL behind it, the machine does the same. So who asks it needs to hand over the
-- two characters only, and whether there is a first.
-- Assumes nothing.
use Prim.Native.Nat.{ℕ}
use mathlib.Core.Path.{◌≡◌, refl}
use mathlib.Core.List.{[], ◌∷◌}
use Rattle.lexer.specs.Cut.{Letters}
use Rattle.locality.specs.Phases.{Phase, behind_slash, line, inside, into, closing, closed, space, name, emoji_name, spelling, behind_at, behind_dollar, wire, zero_first, figures, pointed, decimals, behind_e, power, quote, quote_closed, suffixed, single, act}

pub sees_zero : (u : Letters) (q : Phase) (x : ℕ) → act u q (x ∷ []) ≡ act u q (x ∷ 0 ∷ [])
unfolding act
sees_zero u behind_slash x = refl
sees_zero u (line k) x = refl
sees_zero u (inside d) x = refl
sees_zero u (into d) x = refl
sees_zero u closing x = refl
sees_zero u closed x = refl
sees_zero u space x = refl
sees_zero u name x = refl
sees_zero u emoji_name x = refl
sees_zero u (spelling bare n) x = refl
sees_zero u behind_at x = refl
sees_zero u behind_dollar x = refl
sees_zero u (wire any) x = refl
sees_zero u zero_first x = refl
sees_zero u (figures base any) x = refl
sees_zero u (pointed base) x = refl
sees_zero u (decimals base) x = refl
sees_zero u (behind_e base) x = refl
sees_zero u (power base any) x = refl
sees_zero u (quote escaped s) x = refl
sees_zero u (quote_closed k) x = refl
sees_zero u (suffixed k) x = refl
sees_zero u (single k) x = refl
