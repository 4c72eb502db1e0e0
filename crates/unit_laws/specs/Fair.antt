-- A schedule that serves the channel not served last.
-- Assumes nothing.
use Rattle.unit_laws.specs.Inter.{Moving, first, second, back}

pub data LatestMover : Type 0 where
  nobody channel1 channel2 : LatestMover

-- a give-back changes nothing of who was served last
abbrev pub serve : Moving → LatestMover → LatestMover
serve first x = channel1
serve second x = channel2
serve back x = x

-- the channel not served last, channel 1 if none; a give-back may come at any time
abbrev pub Picks : Moving → LatestMover → Type 0
Picks first nobody = Unit {0}
Picks first channel1 = ⊥
Picks first channel2 = Unit {0}
Picks second nobody = ⊥
Picks second channel1 = Unit {0}
Picks second channel2 = ⊥
Picks back x = Unit {0}
