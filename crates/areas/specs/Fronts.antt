-- Six lists in six lent areas.
use Rattle.kit.specs.Lists.{front}
use Rattle.mapset.specs.Areas.{Areas}

-- the lists a, and behind each what was there
unfoldable pub fronts : (a l : Areas) → Areas
fronts a l =
    record {
      tec = front a.tec l.tec;
      rms = front a.rms l.rms;
      height = front a.height l.height;
      exponents = front a.exponents l.exponents;
      epochs = front a.epochs l.epochs;
      marks = front a.marks l.marks;
    }
