-- `msgpack::width_of` meets its contract: the tests are the definition's.
use mathlib.Core.Path.{sym, ◌∙◌}
use borrow.Author.Tests.{lt-ltb, le-ltb}
use Rattle.msgpack.specs.KindLaws.{container_kind, flat_kind}
use Rattle.msgpack.specs.Short.{fits_in, short_width}
use Rattle.msgpack.proofs.width_of.Goals as goal

pub returns-then-fixed_holds : goal.returns-then-fixed_holds
unfolding short_width
returns-then-fixed_holds c = rw (sym c.fixed_holds.ensures ∙ c.if-fixed_holds.true)

pub returns-in_default : goal.returns-in_default
unfolding short_width fits_in
returns-in_default c =
    let b = c in
    rw (sym b.fixed_holds.ensures ∙ b.if-fixed_holds.false, lt-ltb _ _ c.if-n-lt256.true, lt-ltb _ _ (flat_kind _ c.in_default.not-Array c.in_default.not-Map))

pub returns-in-Array : goal.returns-in-Array
unfolding short_width fits_in
returns-in-Array c =
    let b = c in
    rw (sym b.fixed_holds.ensures ∙ b.if-fixed_holds.false, lt-ltb _ _ c.if-n-lt256.true, le-ltb _ _ (container_kind _ c.in-Array.is))

pub returns-then-n-lt65536 : goal.returns-then-n-lt65536
unfolding short_width fits_in
returns-then-n-lt65536 c =
    let b = c in
    rw (sym b.fixed_holds.ensures ∙ b.if-fixed_holds.false, le-ltb _ _ c.if-n-lt256.false, lt-ltb _ _ c.if-n-lt65536.true)

pub returns-then-n-lt4294967296 : goal.returns-then-n-lt4294967296
unfolding short_width fits_in
returns-then-n-lt4294967296 c =
    let b = c in
    rw (sym b.fixed_holds.ensures ∙ b.if-fixed_holds.false, le-ltb _ _ c.if-n-lt256.false, le-ltb _ _ c.if-n-lt65536.false, lt-ltb _ _ c.if-n-lt4294967296.true)

pub returns-else-n-lt4294967296 : goal.returns-else-n-lt4294967296
unfolding short_width fits_in
returns-else-n-lt4294967296 c =
    let b = c in
    rw (sym b.fixed_holds.ensures ∙ b.if-fixed_holds.false, le-ltb _ _ c.if-n-lt256.false, le-ltb _ _ c.if-n-lt65536.false, le-ltb _ _ c.if-n-lt4294967296.false)
