-- The limit of document 01's refusal 1, which bounds a secondary part and a written pack too.
use Rattle.std.specs.Prelude.{ℕ}

-- the longest pack that document 01 has
abbrev pub pack_limit : ℕ
pack_limit = 4_294_967_295
