-- Document 01, "Which step comes next": a channel's request. Assumes nothing.
use Rattle.std.specs.Prelude.{Bool, not, ◌&&◌, ◌||◌}
use Rattle.word_mode.specs.declared.Mode.{Mode}
use Rattle.word_mode.specs.declared.RequestMode.{RequestMode}
use Rattle.word_mode.specs.declared.RequestMode.TheVariants.{Single, DemandHold, DemandRelease, DemandInterleave}
use Rattle.word_mode.specs.Mode.{request_mode_of, is_masked, is_requested}
use Rattle.channel_request.specs.declared.Line.{Line}

-- Its line is active; single: an inactive-to-active change is stored and unspent.
abbrev pub arrived : RequestMode → Line → Bool
arrived Single l = l.change
arrived DemandHold l = l.active
arrived DemandRelease l = l.active
arrived DemandInterleave l = l.active

-- A channel's request is active if its software bit is set, or its mask is clear and its line is active.
unfoldable pub requests : Mode → Line → Bool
requests m l = is_requested m || (not (is_masked m) && arrived (request_mode_of m) l)
