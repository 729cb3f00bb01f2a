-- The link of a runtime.
use Rattle.std.specs.declared.option.Option.{Option}
use Rattle.std.specs.declared.io.traits.Read as Read
use Rattle.std.specs.declared.io.traits.Write as Write
use Rattle.std.specs.declared.fd.AsRawFd as AsRawFd
use Rattle.edr_base.specs.declared.real_link.RealLink.{RealLink}

-- the stream to the peer that is connected
abbrev pub stream_of : {R S L : Type 0} {reads : Read.Ghosts S} {writes : Write.Ghosts S} {descriptor : AsRawFd.Ghosts S} {listener : AsRawFd.Ghosts L}
    → RealLink R S L reads writes descriptor listener → Option S
stream_of link = link.stream
