-- A header to try questions on, and its texts.
use Rattle.std.specs.Prelude.{pos, negsuc}
use Rattle.mapset.specs.declared.Header.{Header}
use Rattle.mapset.specs.Described.{FullTexts, full}
use Rattle.mapset.specs.Lines.{no_lines}
use Rattle.mapset.specs.Said.{axis_of, blank_texts}
use Rattle.mapset.specs.Samples.{plain_header}

-- one map at second 0: rows at 1.0 and 0.0, columns at 0.0 and 1.0
unfoldable pub header : Header
header = plain_header (record { first = 0; last = 0; interval = 0; maps = 1 }) (axis_of (pos 10) (pos 0) (negsuc 9)) (axis_of (pos 0) (pos 10) (pos 10))

unfoldable pub texts : FullTexts
texts = full blank_texts no_lines
