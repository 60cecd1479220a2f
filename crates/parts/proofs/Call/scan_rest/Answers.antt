use mathlib.Core.Path.{refl}
use native.Mathlib.Omega.{arith}
use lib.ListN.{drop}
use Rattle.parts.proofs.Checking.{Open, rest_within, rest_mark, rest_last, rest_bad, rest_open, rest_end, rest_short, rest_good, front_long}
use Rattle.parts.proofs.Call.scan_rest.Goals as goal
use Rattle.parts.proofs.Call.scan_rest.Goals.{then-self-via-then-self, then-self-via-else-self+then-not-is_unfinished, then-until-self+else-d-lt-NO_CHAR+else-self+else-not-is_unfinished, else-until-self}

pub overflow_add-until : goal.overflow_add-until
overflow_add-until c =
    let a = c.args in
    omega (arith, rest_within a.self.last a.self.lexer.fed a.self.chunk.now a.from c.clean_up_to-clean.ensures c.requires.0)

pub overflow_add-place : goal.overflow_add-place
overflow_add-place c =
    let a = c.args in
    omega (arith, rest_within a.self.last a.self.lexer.fed a.self.chunk.now a.from c.clean_up_to-clean.ensures c.requires.0)

pub returns-then-d-lt-NO_CHAR : goal.returns-then-d-lt-NO_CHAR
returns-then-d-lt-NO_CHAR c =
    let a = c.args in
    rest_mark a.self.last a.self.lexer.fed a.self.chunk.now a.from c.clean_up_to-clean.ensures c.decode-d.ensures c.if-until-self.true c.if-d-lt-NO_CHAR.true

pub returns-then-self : goal.returns-then-self
returns-then-self c =
    let a = c.args in
    elim c.then-self.branch [
      | then-self-via-then-self w ↦
          rest_last a.self.last a.self.lexer.fed a.self.chunk.now a.from c.clean_up_to-clean.ensures c.decode-d.ensures c.if-until-self.true c.if-d-lt-NO_CHAR.false w.if-self.true
      | then-self-via-else-self+then-not-is_unfinished w ↦
          rest_bad a.self.last a.self.lexer.fed a.self.chunk.now a.from c.clean_up_to-clean.ensures c.decode-d.ensures c.if-until-self.true c.if-d-lt-NO_CHAR.false w.if-self.false w.is_unfinished.ensures w.if-not-is_unfinished.true
    ]

pub slice_bounds-tail-count : goal.slice_bounds-tail-count
slice_bounds-tail-count c =
    let a = c.args in
    rest_within a.self.last a.self.lexer.fed a.self.chunk.now a.from c.clean_up_to-clean.ensures c.requires.0

pub slice_bounds-tail-start : goal.slice_bounds-tail-start
slice_bounds-tail-start c =
    let a = c.args in
    rest_within a.self.last a.self.lexer.fed a.self.chunk.now a.from c.clean_up_to-clean.ensures c.requires.0

pub holding-requires : goal.holding-requires
holding-requires c =
    let a = c.args in
    let o : Open a.self.last (drop a.from a.self.chunk.now) c.clean_up_to-clean.result =
    elim c.if-until-self.branch [
      | then-until-self+else-d-lt-NO_CHAR+else-self+else-not-is_unfinished w ↦ rest_open a.self.last a.self.lexer.fed a.self.chunk.now a.from c.clean_up_to-clean.ensures w.decode-d.ensures w.if-until-self.true w.if-d-lt-NO_CHAR.false w.if-self.false w.is_unfinished.ensures w.if-not-is_unfinished.false
      | else-until-self w ↦ rest_end a.self.last a.self.lexer.fed a.self.chunk.now a.from c.clean_up_to-clean.ensures c.requires.0 w.if-until-self.false
    ] in
    rest_short a.self.last a.self.lexer.fed a.self.chunk.now a.from c.clean_up_to-clean.ensures o

pub returns : goal.returns
returns c =
    let a = c.args in
    let o : Open a.self.last (drop a.from a.self.chunk.now) c.clean_up_to-clean.result =
    elim c.if-until-self.branch [
      | then-until-self+else-d-lt-NO_CHAR+else-self+else-not-is_unfinished w ↦ rest_open a.self.last a.self.lexer.fed a.self.chunk.now a.from c.clean_up_to-clean.ensures w.decode-d.ensures w.if-until-self.true w.if-d-lt-NO_CHAR.false w.if-self.false w.is_unfinished.ensures w.if-not-is_unfinished.false
      | else-until-self w ↦ rest_end a.self.last a.self.lexer.fed a.self.chunk.now a.from c.clean_up_to-clean.ensures c.requires.0 w.if-until-self.false
    ] in
    rest_good a.self.last a.self.lexer.fed a.self.chunk.now a.from c.clean_up_to-clean.ensures o refl refl c.holding.ensures

pub slice_bounds-result-end : goal.slice_bounds-result-end
slice_bounds-result-end c =
    let a = c.args in
    let w = rest_within a.self.last a.self.lexer.fed a.self.chunk.now a.from c.clean_up_to-clean.ensures c.requires.0 in
    front_long a.self.last a.self.lexer.fed a.self.chunk.now a.from c.clean_up_to-clean.ensures w
