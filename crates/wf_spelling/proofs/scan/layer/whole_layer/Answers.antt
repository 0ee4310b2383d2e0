use Rattle.wf_spelling.proofs.ScannedBlock.{layer_is, name_is}
use Rattle.wf_spelling.proofs.scan.layer.whole_layer.Goals as goal

pub returns-clause-value : goal.returns-clause-value
returns-clause-value c =
    let h = c.args.heading in
    record {
      name = name_is h.name c.in-Some-new-2.name c.in-Some-new-2.ensures;
      layer = layer_is h.kind h.title h.class_item h.label_item h.items c.args.classes c.args.features c.in-Some-new.layer c.in-Some-new.ensures;
    }

pub returns-clause-counted : goal.returns-clause-counted
returns-clause-counted c =
    let h = c.args.heading in
    rw (layer_is h.kind h.title h.class_item h.label_item h.items c.args.classes c.args.features c.in-Some-new.layer c.in-Some-new.ensures)
    (rw c.as_slice.ensures.value at c.in-Some.ensures)
