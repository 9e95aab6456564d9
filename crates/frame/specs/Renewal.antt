-- What becomes of a frame that is opened to be renewed.
-- Assumes nothing.
use Rattle.std.specs.Prelude.{ℕ, List, length}
use Rattle.frame.specs.Code.{Code}
use Rattle.frame.specs.Opening.{Outcome, clean, mended, refused}
use Rattle.frame.specs.Sealing.{bytes_of, sealing}

-- the bytes of a frame, by what it opens to: a mended one is sealed anew, any other stays
abbrev pub renewed : Code → List ℕ → Outcome → List ℕ
renewed K bytes (clean ys a) = bytes
renewed K bytes (mended part ys a) = bytes_of (length bytes) (sealing K ys a)
renewed K bytes (refused fault) = bytes
