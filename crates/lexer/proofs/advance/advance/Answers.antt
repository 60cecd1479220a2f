use Rattle.lexer.proofs.Dispatch.{Free}
use Rattle.lexer.specs.Steps.{Lettered}
use mathlib.Core.Path.{refl}
use mathlib.Core.Path.{◌≡◌}
use mathlib.Core.Bool.{true}
use native.Mathlib.Omega.{arith}
use Rattle.letters.specs.Chars.{is_whitespace}
use Rattle.characters.specs.Ranges.{in_table}
use Rattle.ucd.specs.Properties.{ascii_start, tested_in}
use Rattle.letters.specs.Chars.{whitespace}
use Rattle.cutters.specs.Kinds.{marks, mark_in}
use Rattle.cutters.specs.Digits.{is_digit}
use Rattle.lexer.specs.Cut.{advance}
use Rattle.lexer.proofs.Dispatch.{not_key, upper, lower, digit, underscore, wide_low, wide_middle, wide_high, free_first, free_second, free_third, free_last, late_ascii, no_emoji, space, next_line, controls, directions, separators}
use Rattle.lexer.proofs.Advancing.{advancing, told, cut_key, cut_space, cut_number, cut_string, cut_unknown}
use borrow.Author.Rules.{rules}
use Rattle.lexer.proofs.advance.advance.Goals as goal
use Rattle.lexer.proofs.advance.advance.Goals.{in-95-1, in_default+then-c-lt123+else-c-lt9+else-c-lt14+else-c-lt40+else-c-lt58+then-c-lt91, in_default+then-c-lt123+else-c-lt9+else-c-lt14+else-c-lt40+else-c-lt58+else-c-lt91+else-c-lt97, in_default+else-c-lt123+else-c-lt128+then-c-lt8206, in_default+else-c-lt123+else-c-lt128+else-c-lt8206+else-c-lt8208+then-c-lt8232, in_default+else-c-lt123+else-c-lt128+else-c-lt8206+else-c-lt8208+else-c-lt8232+else-c-lt8234, in_default-via-then-c-lt123+then-c-lt9, in_default-via-then-c-lt123+else-c-lt9+else-c-lt14+then-c-lt40, in_default-via-then-c-lt123+else-c-lt9+else-c-lt14+else-c-lt40+else-c-lt58+else-c-lt91+then-c-lt97, in_default-via-else-c-lt123+then-c-lt128, in-34-1, in_default+then-c-lt123+else-c-lt9+else-c-lt14+else-c-lt40+then-c-lt58, in-32-1, in-133-1, in_default+then-c-lt123+else-c-lt9+then-c-lt14, in_default+else-c-lt123+else-c-lt128+else-c-lt8206+then-c-lt8208, in_default+else-c-lt123+else-c-lt128+else-c-lt8206+else-c-lt8208+else-c-lt8232+then-c-lt8234}

pub named-requires : goal.named-requires
named-requires c =
    let letter : Lettered c.args.c =
    elim c.in-65-to-90-1.branch [
      | in-95-1 w ↦ underscore (omega arith)
      | in_default+then-c-lt123+else-c-lt9+else-c-lt14+else-c-lt40+else-c-lt58+then-c-lt91 w ↦ upper _ w.in_default-1.rest (omega arith) (omega arith)
      | in_default+then-c-lt123+else-c-lt9+else-c-lt14+else-c-lt40+else-c-lt58+else-c-lt91+else-c-lt97 w ↦ lower _ w.in_default-1.rest (omega arith) (omega arith)
      | in_default+else-c-lt123+else-c-lt128+then-c-lt8206 w ↦ wide_low _ w.in_default-1.rest (omega arith) (omega arith)
      | in_default+else-c-lt123+else-c-lt128+else-c-lt8206+else-c-lt8208+then-c-lt8232 w ↦ wide_middle _ w.in_default-1.rest (omega arith) (omega arith)
      | in_default+else-c-lt123+else-c-lt128+else-c-lt8206+else-c-lt8208+else-c-lt8232+else-c-lt8234 w ↦ wide_high _ w.in_default-1.rest (omega arith)
    ]
    in
    (c.requires, letter)

pub literal-requires : goal.literal-requires
literal-requires c = c.requires.within

pub returns-in-47 : goal.returns-in-47
returns-in-47 c = search (rules, advancing)

pub returns-in-35 : goal.returns-in-35
returns-in-35 c = search (rules, advancing)

pub returns-in-64 : goal.returns-in-64
returns-in-64 c = search (rules, advancing)

pub returns-in-36 : goal.returns-in-36
returns-in-36 c = search (rules, advancing)

pub returns-in-59 : goal.returns-in-59
unfolding advance whitespace in_table tested_in ascii_start is_digit marks mark_in
returns-in-59 c = told c.plain.ensures (cut_key _ _ c.requires 0x3B _ c.in-59.is (λ t. refl) (record { number = refl; wire = refl }))

pub returns-in-44 : goal.returns-in-44
unfolding advance whitespace in_table tested_in ascii_start is_digit marks mark_in
returns-in-44 c = told c.plain-in-44.ensures (cut_key _ _ c.requires 0x2C _ c.in-44.is (λ t. refl) (record { number = refl; wire = refl }))

pub returns-in-46 : goal.returns-in-46
unfolding advance whitespace in_table tested_in ascii_start is_digit marks mark_in
returns-in-46 c = told c.plain-in-46.ensures (cut_key _ _ c.requires 0x2E _ c.in-46.is (λ t. refl) (record { number = refl; wire = refl }))

pub returns-in-40 : goal.returns-in-40
unfolding advance whitespace in_table tested_in ascii_start is_digit marks mark_in
returns-in-40 c = told c.plain-in-40.ensures (cut_key _ _ c.requires 0x28 _ c.in-40.is (λ t. refl) (record { number = refl; wire = refl }))

pub returns-in-41 : goal.returns-in-41
unfolding advance whitespace in_table tested_in ascii_start is_digit marks mark_in
returns-in-41 c = told c.plain-in-41.ensures (cut_key _ _ c.requires 0x29 _ c.in-41.is (λ t. refl) (record { number = refl; wire = refl }))

pub returns-in-123 : goal.returns-in-123
unfolding advance whitespace in_table tested_in ascii_start is_digit marks mark_in
returns-in-123 c = told c.plain-in-123.ensures (cut_key _ _ c.requires 0x7B _ c.in-123.is (λ t. refl) (record { number = refl; wire = refl }))

pub returns-in-125 : goal.returns-in-125
unfolding advance whitespace in_table tested_in ascii_start is_digit marks mark_in
returns-in-125 c = told c.plain-in-125.ensures (cut_key _ _ c.requires 0x7D _ c.in-125.is (λ t. refl) (record { number = refl; wire = refl }))

pub returns-in-91 : goal.returns-in-91
unfolding advance whitespace in_table tested_in ascii_start is_digit marks mark_in
returns-in-91 c = told c.plain-in-91.ensures (cut_key _ _ c.requires 0x5B _ c.in-91.is (λ t. refl) (record { number = refl; wire = refl }))

pub returns-in-93 : goal.returns-in-93
unfolding advance whitespace in_table tested_in ascii_start is_digit marks mark_in
returns-in-93 c = told c.plain-in-93.ensures (cut_key _ _ c.requires 0x5D _ c.in-93.is (λ t. refl) (record { number = refl; wire = refl }))

pub returns-in-126 : goal.returns-in-126
unfolding advance whitespace in_table tested_in ascii_start is_digit marks mark_in
returns-in-126 c = told c.plain-in-126.ensures (cut_key _ _ c.requires 0x7E _ c.in-126.is (λ t. refl) (record { number = refl; wire = refl }))

pub returns-in-63 : goal.returns-in-63
unfolding advance whitespace in_table tested_in ascii_start is_digit marks mark_in
returns-in-63 c = told c.plain-in-63.ensures (cut_key _ _ c.requires 0x3F _ c.in-63.is (λ t. refl) (record { number = refl; wire = refl }))

pub returns-in-58 : goal.returns-in-58
unfolding advance whitespace in_table tested_in ascii_start is_digit marks mark_in
returns-in-58 c = told c.plain-in-58.ensures (cut_key _ _ c.requires 0x3A _ c.in-58.is (λ t. refl) (record { number = refl; wire = refl }))

pub returns-in-61 : goal.returns-in-61
unfolding advance whitespace in_table tested_in ascii_start is_digit marks mark_in
returns-in-61 c = told c.plain-in-61.ensures (cut_key _ _ c.requires 0x3D _ c.in-61.is (λ t. refl) (record { number = refl; wire = refl }))

pub returns-in-33 : goal.returns-in-33
unfolding advance whitespace in_table tested_in ascii_start is_digit marks mark_in
returns-in-33 c = told c.plain-in-33.ensures (cut_key _ _ c.requires 0x21 _ c.in-33.is (λ t. refl) (record { number = refl; wire = refl }))

pub returns-in-60 : goal.returns-in-60
unfolding advance whitespace in_table tested_in ascii_start is_digit marks mark_in
returns-in-60 c = told c.plain-in-60.ensures (cut_key _ _ c.requires 0x3C _ c.in-60.is (λ t. refl) (record { number = refl; wire = refl }))

pub returns-in-62 : goal.returns-in-62
unfolding advance whitespace in_table tested_in ascii_start is_digit marks mark_in
returns-in-62 c = told c.plain-in-62.ensures (cut_key _ _ c.requires 0x3E _ c.in-62.is (λ t. refl) (record { number = refl; wire = refl }))

pub returns-in-45 : goal.returns-in-45
unfolding advance whitespace in_table tested_in ascii_start is_digit marks mark_in
returns-in-45 c = told c.plain-in-45.ensures (cut_key _ _ c.requires 0x2D _ c.in-45.is (λ t. refl) (record { number = refl; wire = refl }))

pub returns-in-38 : goal.returns-in-38
unfolding advance whitespace in_table tested_in ascii_start is_digit marks mark_in
returns-in-38 c = told c.plain-in-38.ensures (cut_key _ _ c.requires 0x26 _ c.in-38.is (λ t. refl) (record { number = refl; wire = refl }))

pub returns-in-124 : goal.returns-in-124
unfolding advance whitespace in_table tested_in ascii_start is_digit marks mark_in
returns-in-124 c = told c.plain-in-124.ensures (cut_key _ _ c.requires 0x7C _ c.in-124.is (λ t. refl) (record { number = refl; wire = refl }))

pub returns-in-43 : goal.returns-in-43
unfolding advance whitespace in_table tested_in ascii_start is_digit marks mark_in
returns-in-43 c = told c.plain-in-43.ensures (cut_key _ _ c.requires 0x2B _ c.in-43.is (λ t. refl) (record { number = refl; wire = refl }))

pub returns-in-42 : goal.returns-in-42
unfolding advance whitespace in_table tested_in ascii_start is_digit marks mark_in
returns-in-42 c = told c.plain-in-42.ensures (cut_key _ _ c.requires 0x2A _ c.in-42.is (λ t. refl) (record { number = refl; wire = refl }))

pub returns-in-94 : goal.returns-in-94
unfolding advance whitespace in_table tested_in ascii_start is_digit marks mark_in
returns-in-94 c = told c.plain-in-94.ensures (cut_key _ _ c.requires 0x5E _ c.in-94.is (λ t. refl) (record { number = refl; wire = refl }))

pub returns-in-37 : goal.returns-in-37
unfolding advance whitespace in_table tested_in ascii_start is_digit marks mark_in
returns-in-37 c = told c.plain-in-37.ensures (cut_key _ _ c.requires 0x25 _ c.in-37.is (λ t. refl) (record { number = refl; wire = refl }))

pub returns-in_default : goal.returns-in_default
returns-in_default c =
    let free : Free c.args.c =
    elim c.in_default.branch [
      | in_default-via-then-c-lt123+then-c-lt9 w ↦ free_first (omega arith)
      | in_default-via-then-c-lt123+else-c-lt9+else-c-lt14+then-c-lt40 w ↦ free_second (omega arith) (omega arith)
      | in_default-via-then-c-lt123+else-c-lt9+else-c-lt14+else-c-lt40+else-c-lt58+else-c-lt91+then-c-lt97 w ↦ free_third (omega arith) (omega arith)
      | in_default-via-else-c-lt123+then-c-lt128 w ↦ free_last (omega arith) (omega arith)
    ]
    in
    told c.plain-in_default.ensures (cut_unknown _ _ _ _ c.requires (late_ascii _ c.in_default-1.rest _ free) (no_emoji _ free) refl)

pub returns-in-34 : goal.returns-in-34
returns-in-34 c =
    elim c.in-34-1.branch [
      | in-34-1 w ↦ cut_string _ _ _ _ c.requires (omega arith) (c.literal.ensures.string (omega arith))
      | in_default+then-c-lt123+else-c-lt9+else-c-lt14+else-c-lt40+then-c-lt58 w ↦
          cut_number _ _ _ _ c.requires (digit _ w.in_default-1.rest (omega arith) (omega arith)) (c.literal.ensures.number (not_key 0x22 w.in_default-1.rest refl))
    ]

pub returns-in-9-to-13 : goal.returns-in-9-to-13
returns-in-9-to-13 c =
    let white : is_whitespace c.args.c ≡ true =
    elim c.in-9-to-13-1.branch [
      | in-32-1 w ↦ space (omega arith)
      | in-133-1 w ↦ next_line (omega arith)
      | in_default+then-c-lt123+else-c-lt9+then-c-lt14 w ↦ controls (omega arith) (omega arith)
      | in_default+else-c-lt123+else-c-lt128+else-c-lt8206+then-c-lt8208 w ↦ directions (omega arith) (omega arith)
      | in_default+else-c-lt123+else-c-lt128+else-c-lt8206+else-c-lt8208+else-c-lt8232+then-c-lt8234 w ↦ separators (omega arith) (omega arith)
    ]
    in
    told c.plain-in-9-to-13.ensures (cut_space _ _ _ _ c.requires white c.eat_whitespace.ensures)
