-- Document 01, "Which step comes next": when a channel is a candidate. Assumes nothing.
use Rattle.std.specs.Prelude.{Bool, not, ◌&&◌, ◌||◌}

-- It is a candidate if a chain is pending, or if its request is active with NAC, SIP and CA clear.
abbrev pub candidate_of : (pending active nac sip ca : Bool) → Bool
candidate_of pending active nac sip ca = pending || (active && ((not nac && not sip) && not ca))
