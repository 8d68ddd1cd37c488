-- `msgpack::sized_format` meets its contract: each arm is a row of the table.
use mathlib.Core.Logic.{⊎_elim}
use mathlib.Core.Path.{◌≡◌}
use mathlib.Core.Path.{sym, ap}
use Rattle.msgpack.specs.Formats.{formats, format_of}
use native.Mathlib.Omega.{arith}
use Rattle.msgpack.proofs.sized_format.Goals as goal

pub returns-in-192 : goal.returns-in-192
unfolding format_of formats
returns-in-192 c = ap format_of (sym c.in-192.is)

pub returns-in-193 : goal.returns-in-193
unfolding format_of formats
returns-in-193 c = ap format_of (sym c.in-193.is)

pub returns-in-194 : goal.returns-in-194
unfolding format_of formats
returns-in-194 c = ap format_of (sym c.in-194.is)

pub returns-in-195 : goal.returns-in-195
unfolding format_of formats
returns-in-195 c = ap format_of (sym c.in-195.is)

pub returns-in-196 : goal.returns-in-196
unfolding format_of formats
returns-in-196 c = ap format_of (sym c.in-196.is)

pub returns-in-197 : goal.returns-in-197
unfolding format_of formats
returns-in-197 c = ap format_of (sym c.in-197.is)

pub returns-in-198 : goal.returns-in-198
unfolding format_of formats
returns-in-198 c = ap format_of (sym c.in-198.is)

pub returns-in-199 : goal.returns-in-199
unfolding format_of formats
returns-in-199 c = ap format_of (sym c.in-199.is)

pub returns-in-200 : goal.returns-in-200
unfolding format_of formats
returns-in-200 c = ap format_of (sym c.in-200.is)

pub returns-in-201 : goal.returns-in-201
unfolding format_of formats
returns-in-201 c = ap format_of (sym c.in-201.is)

pub returns-in-202 : goal.returns-in-202
unfolding format_of formats
returns-in-202 c = ap format_of (sym c.in-202.is)

pub returns-in-203 : goal.returns-in-203
unfolding format_of formats
returns-in-203 c = ap format_of (sym c.in-203.is)

pub returns-in-204 : goal.returns-in-204
unfolding format_of formats
returns-in-204 c = ⊎_elim (λ e. ap format_of (sym e)) (λ e. ap format_of (sym e)) c.in-204.is

pub returns-in-205 : goal.returns-in-205
unfolding format_of formats
returns-in-205 c = ⊎_elim (λ e. ap format_of (sym e)) (λ e. ap format_of (sym e)) c.in-205.is

pub returns-in-206 : goal.returns-in-206
unfolding format_of formats
returns-in-206 c = ⊎_elim (λ e. ap format_of (sym e)) (λ e. ap format_of (sym e)) c.in-206.is

pub returns-in-207 : goal.returns-in-207
unfolding format_of formats
returns-in-207 c = ⊎_elim (λ e. ap format_of (sym e)) (λ e. ap format_of (sym e)) c.in-207.is

pub returns-in-212 : goal.returns-in-212
unfolding format_of formats
returns-in-212 c = ap format_of (sym c.in-212.is)

pub returns-in-213 : goal.returns-in-213
unfolding format_of formats
returns-in-213 c = ap format_of (sym c.in-213.is)

pub returns-in-214 : goal.returns-in-214
unfolding format_of formats
returns-in-214 c = ap format_of (sym c.in-214.is)

pub returns-in-215 : goal.returns-in-215
unfolding format_of formats
returns-in-215 c = ap format_of (sym c.in-215.is)

pub returns-in-216 : goal.returns-in-216
unfolding format_of formats
returns-in-216 c = ap format_of (sym c.in-216.is)

pub returns-in-217 : goal.returns-in-217
unfolding format_of formats
returns-in-217 c = ap format_of (sym c.in-217.is)

pub returns-in-218 : goal.returns-in-218
unfolding format_of formats
returns-in-218 c = ap format_of (sym c.in-218.is)

pub returns-in-219 : goal.returns-in-219
unfolding format_of formats
returns-in-219 c = ap format_of (sym c.in-219.is)

pub returns-in-220 : goal.returns-in-220
unfolding format_of formats
returns-in-220 c = ap format_of (sym c.in-220.is)

pub returns-in-221 : goal.returns-in-221
unfolding format_of formats
returns-in-221 c = ap format_of (sym c.in-221.is)

pub returns-in-222 : goal.returns-in-222
unfolding format_of formats
returns-in-222 c = ap format_of (sym c.in-222.is)

pub returns-in_default : goal.returns-in_default
unfolding format_of formats
returns-in_default c =
    let last : c.args.b ≡ 0xdf = grind arith in
    ap format_of (sym last)
