-- The longest pack that comes through a pipe (request 6); document 01's limit stays for all else.
use Rattle.std.specs.Prelude.{ℕ, ◌^◌}

abbrev pub pipe_limit : ℕ
pipe_limit = 2 ^ 40
