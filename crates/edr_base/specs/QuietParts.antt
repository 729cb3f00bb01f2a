-- What the objects that never fail were made with: how much they give or take at once.
use Rattle.std.specs.Prelude.{ℕ}
use Rattle.edr_base.specs.declared.quiet_source.QuietSource.{QuietSource}
use Rattle.edr_base.specs.declared.quiet_sink.QuietSink.{QuietSink}

abbrev pub cut_of_quiet_source : QuietSource → ℕ
cut_of_quiet_source s = s.cut

abbrev pub cut_of_quiet_sink : QuietSink → ℕ
cut_of_quiet_sink s = s.cut
