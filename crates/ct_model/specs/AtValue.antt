-- Wires and what holds them, where values of consensus are sets of messages.
use Rattle.ct_names.specs.Value.{Value}
use Rattle.ct_model.specs.Wire.{Wire as AnyWire, Envelope as AnyEnvelope, Mail as AnyMail}
use Rattle.ct_model.specs.State.{Standing as AnyStanding, Turn as AnyTurn}

abbrev pub Wire : Type 0
Wire = AnyWire Value

abbrev pub Envelope : Type 0
Envelope = AnyEnvelope Value

abbrev pub Mail : Type 0
Mail = AnyMail Value

abbrev pub Standing : Type 0
Standing = AnyStanding Value

abbrev pub Turn : Type 0
Turn = AnyTurn Value
