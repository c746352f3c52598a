-- The message that a `Message` of the code holds.
use Rattle.hosts.specs.declared.messages.Message.{Message}
use Rattle.hosts.specs.Meaning.{Sent, message}

-- the message itself, with its arguments as a list
abbrev pub sent : Message → Sent
sent m = message m.is_super m.selector m.receiver m.arguments.now
