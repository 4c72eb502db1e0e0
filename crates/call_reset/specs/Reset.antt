-- Document 01, "Registers": Reset, and a fresh controller. Assumes nothing.
use Rattle.std.specs.Prelude.{false, None}
use Rattle.word_address.specs.declared.Address.{Address}
use Rattle.word_address.specs.declared.Set.{Set}
use Rattle.channel.specs.declared.Channel.{Channel}
use Rattle.channel.specs.Reset.{reset_channel}
use Rattle.step_bus.specs.declared.Control.{Control}
use Rattle.step.specs.declared.Controller.{Controller}

abbrev pub quiet : Control
quiet = record { chain = None; bus = None; note = false; served = None }

-- Reset clears master mode, drops any chain, kept bus and give-back note, and makes "served last" none; the pointer stays.
unfoldable pub reset_of : Controller → Controller
reset_of u = record { pointer = u.pointer; master = 0; control = quiet; one = reset_channel u.one; two = reset_channel u.two }

-- A fresh controller is all zeros, then reset.
abbrev pub no_register : Address
no_register = record { upper = 0; lower = 0 }

abbrev pub no_set : Set
no_set = record { a = no_register; b = no_register; count = 0 }

abbrev pub no_channel : Channel
no_channel = record {
  current = no_set;
  base = no_set;
  pattern = 0;
  mask = 0;
  mode = record { high = 0; low = 0 };
  chain = no_register;
  interrupt = record { cie = false; ip = false; sip = false; vector = 0; save = 0 };
  status = record { ca = false; nac = false; mch = false; mcl = false; why = record { tc = false; mc = false; eop = false } };
  line = record { active = false; change = false };
  pending = false;
}

abbrev pub zeros : Controller
zeros = record { pointer = 0; master = 0; control = quiet; one = no_channel; two = no_channel }

unfoldable pub fresh_of : Controller
fresh_of = reset_of zeros
